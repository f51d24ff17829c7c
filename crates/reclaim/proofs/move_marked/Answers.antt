-- `reclaim::move_marked` meets its contract: the mark, and then the move on the image that it left. Assumes nothing.
use mathlib.Core.Path.{refl}
use mathlib.Core.List.{List}
use Prim.Native.Nat.{ℕ}
use Rattle.flash.proofs.Laws.{goes_start, goes_then, goes_out, goes_last}
use Rattle.relocate.specs.Move.{moving}
use Rattle.table.specs.Table.{items_in}
use Rattle.reclaim.specs.Reclaim.{plan_steps}
use Rattle.reclaim.proofs.move_marked.Goals as goal

pub returns-in_err-left : goal.returns-in_err-left
unfolding plan_steps
returns-in_err-left c = goes_out _ (goes_start _ _ _) refl c.mark_freeing.ensures c.in_err-left.was c.from_residual.ensures.0

pub returns : goal.returns
unfolding plan_steps items_in
returns c =
    let a = c.args in
    goes_last
    (goes_then (λ (m : List ℕ). moving a.source a.target a.sequence (items_in a.source m) m) (goes_start _ _ _) refl c.mark_freeing.ensures c.in_ok-left.was)
    c.move_page.ensures
