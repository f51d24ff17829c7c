-- `page::see` meets its contract, field by field. Assumes nothing.
use Rattle.page.specs.Record.{seen_of}
use Rattle.page.proofs.seen.see.Goals as goal

pub returns-then-is_free : goal.returns-then-is_free
unfolding seen_of
returns-then-is_free c = rw (c.free_seen.ensures, ← c.page_state-state.ensures, ← c.is_free.ensures, c.if-is_free.true)

pub returns : goal.returns
unfolding seen_of
returns c = rw (← c.page_state-state.ensures, ← c.is_free.ensures, c.if-is_free.false, c.le32.ensures, c.totals_of-written.ensures)
