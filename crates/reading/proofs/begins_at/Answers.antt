-- `reader::begins_at` meets its contract: each test that led to a return decides the definition's. Assumes nothing.
use borrow.Author.Tests.{eq-eqb, ne_eqb}
use Rattle.reading.specs.Reading.{has_none, begins_at}
use Rattle.reading.proofs.begins_at.Goals as goal
use Rattle.reading.proofs.begins_at.Goals.{else-sector-eq-SECTOR_BYTES-via-then-sector-eq-SECTOR_BYTES+else-is_free, else-sector-eq-SECTOR_BYTES-via-else-sector-eq-SECTOR_BYTES}

pub returns-then-is_free : goal.returns-then-is_free
unfolding begins_at has_none
returns-then-is_free c = rw (eq-eqb _ _ c.if-sector-eq-SECTOR_BYTES.true, ← c.page_state.ensures, ← c.is_free.ensures, c.if-is_free.true)

pub returns-else-sector-eq-SECTOR_BYTES : goal.returns-else-sector-eq-SECTOR_BYTES
unfolding begins_at has_none
returns-else-sector-eq-SECTOR_BYTES c =
    elim c.else-sector-eq-SECTOR_BYTES.branch [
      | else-sector-eq-SECTOR_BYTES-via-then-sector-eq-SECTOR_BYTES+else-is_free w ↦ rw (eq-eqb _ _ w.if-sector-eq-SECTOR_BYTES.true, ← w.page_state.ensures, ← w.is_free.ensures, w.if-is_free.false)
      | else-sector-eq-SECTOR_BYTES-via-else-sector-eq-SECTOR_BYTES w ↦ rw (ne_eqb _ _ w.if-sector-eq-SECTOR_BYTES.false)
    ]
