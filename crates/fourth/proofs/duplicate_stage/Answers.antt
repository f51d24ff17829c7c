-- `fourth::duplicate_stage` meets its contract: the items at the places are those found, which stand at different places, and the last marks go by
-- the image that the erasures left. Assumes nothing.
use Rattle.std.proofs.Common.{◌≡◌, ◌∙◌, ◌<◌, sym, ap, refl, List, ℕ, take, get_or, rules}
use mathlib.Core.List.{flat_map}
use Rattle.flash.specs.Did.{Did}
use Rattle.flash.proofs.Laws.{goes_start, goes_then, goes_out, goes_last}
use Rattle.table.specs.Table.{listed}
use Rattle.found.specs.Found.{Found, found}
use Rattle.found.specs.Places.{items_at}
use Rattle.found.proofs.Finding.{items_found, found_placed}
use Rattle.duplicates.specs.Duplicates.{groups, duplicate_steps, last_marks, duplicate_stage}
use Rattle.duplicates.specs.Turns.{group_steps}
use Rattle.duplicates.proofs.Groups.{steps-are}
use Rattle.duplicates.proofs.Apart.{found_apart}
use Rattle.fourth.proofs.duplicate_stage.Goals as goal
use Rattle.fourth.proofs.duplicate_stage.Goals.{After-make_duplicates}

pub make_duplicates-requires : goal.make_duplicates-requires
make_duplicates-requires c =
    (rw c.requires.2 (found_placed c.args.image.now (listed c.args.table.now) c.requires.1), c.requires.3, c.requires.4)

-- the erasures are the stage's
erased : (c : After-make_duplicates) → let a = c.args in
    Did (duplicate_steps (found (listed a.table.now) a.image.now)) a.allowed a.image.now c.make_duplicates.new.image c.make_duplicates.result
erased c =
    let l = c.args.image.now in
    let ps = listed c.args.table.now in
    let small : (i : ℕ) → get_or l i 0 < 256 = λ i. search rules in
    let items : items_at l (take c.args.n c.args.room.now) ≡ found ps l = ap (items_at l) c.requires.2 ∙ items_found l ps c.requires.1 in
    rw (ap (λ (xs : List Found). flat_map (group_steps xs) (groups xs)) items ∙ sym (steps-are (found ps l) (found_apart l c.requires.0 c.requires.1 small))) at c.make_duplicates.ensures.0

pub returns-in_err-left : goal.returns-in_err-left
unfolding duplicate_stage
returns-in_err-left c =
    goes_out _ (goes_start _ _ _) refl (erased (goal.at.returns-in_err-left c).After-make_duplicates) c.in_err-left.was c.from_residual.ensures.0

pub make_last_marks-requires : goal.make_last_marks-requires
make_last_marks-requires c = rw c.make_duplicates.ensures.1.size c.requires.0

pub returns : goal.returns
unfolding duplicate_stage
returns c =
    goes_last (goes_then (last_marks (listed c.args.table.now)) (goes_start _ _ _) refl (erased (goal.at.returns c).After-make_duplicates) c.in_ok-left.was) c.make_last_marks.ensures
