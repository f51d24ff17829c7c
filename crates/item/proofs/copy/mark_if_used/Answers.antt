-- `item::mark_if_used` meets its contract: one step, or none. Assumes nothing.
use Rattle.flash.proofs.Laws.{did_none}
use Rattle.item.proofs.Turns.{full-yes, full-no}
use Rattle.item.proofs.copy.mark_if_used.Goals as goal

pub returns-then-next-eq-PAGE_ENTRIES : goal.returns-then-next-eq-PAGE_ENTRIES
returns-then-next-eq-PAGE_ENTRIES c = rw (full-yes _ _ c.if-next-eq-PAGE_ENTRIES.true) c.mark_state.ensures

pub returns : goal.returns
returns c = rw (full-no _ _ c.if-next-eq-PAGE_ENTRIES.false) (did_none _ _)
