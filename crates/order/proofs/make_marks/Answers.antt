-- `order::make_marks` meets its contract: the marks of the others, then the kept page's. Assumes nothing.
use mathlib.Core.Path.{refl}
use Rattle.flash.proofs.Laws.{goes_start, goes_on, goes_out, goes_last}
use Rattle.order.proofs.make_marks.Goals as goal

pub returns-in_err-left : goal.returns-in_err-left
returns-in_err-left c = goes_out _ (goes_start _ _ _) refl c.mark_all.ensures c.in_err-left.was c.from_residual.ensures.0

pub returns : goal.returns
returns c = goes_last (goes_on (goes_start _ _ _) refl c.mark_all.ensures c.in_ok-left.was) c.mark_kept.ensures
