-- `stages::repair` meets its contract: each stage judges by the items found on the image as it stands. Assumes nothing.
use mathlib.Core.Path.{◌≡◌, sym, ap, ◌∙◌}
use mathlib.Core.Bool.{false}
use Prim.Native.Nat.{ℕ, ◌/◌}
use native.Mathlib.Omega.{arith}
use Rattle.flash.specs.Did.{Did}
use Rattle.lists.specs.Lists.{some_of}
use Rattle.table.specs.Table.{listed}
use Rattle.found.specs.Found.{Found, found, is_part}
use Rattle.found.proofs.Finding.{items_found, found_placed}
use Rattle.found.proofs.Lying.{lies_alike}
use Rattle.blobs.specs.Blobs.{blob_steps}
use Rattle.blobs.proofs.Parts.{no_step}
use Rattle.answer.proofs.Made.{went_out}
use Rattle.repair.proofs.Repairing.{blobs-stop, blobs_on, no-blobs}
use Rattle.repair.proofs.Counting.{stage-counted, stop-counted}
use Rattle.repair.proofs.repair.Goals as goal
use Rattle.repair.proofs.repair.Goals.{After-make_blobs}

pub any_part-requires : goal.any_part-requires
any_part-requires c = rw c.gather-n.ensures.0 (found_placed c.args.image.now (listed c.args.table.now) c.requires.1)

-- where there is no part, stage 3 has no step
pub returns-then-not-any_part : goal.returns-then-not-any_part
returns-then-not-any_part c =
    let l = c.args.image.now in
    let ps = listed c.args.table.now in
    let none_here : some_of (λ (x : Found). is_part x.raw) (found ps l) ≡ false =
    rw (c.gather-n.ensures.0, items_found l ps c.requires.1) at (sym c.any_part.ensures ∙ c.if-not-any_part.true) in
    let made = c.repair_items.ensures in
    (rw (no-blobs ps l (no_step (found ps l) none_here)) made, stage-counted ps c.gather-n.ensures.2 c.requires.1 made)

pub make_blobs-requires : goal.make_blobs-requires
make_blobs-requires c =
    let g = c.gather-n.ensures in
    (rw g.0 (found_placed c.args.image.now (listed c.args.table.now) c.requires.1), g.1, omega (arith, c.requires.2, c.gather-n.auto.out))

-- what stage 3 did is by the items found
repaired : (c : After-make_blobs) →
    let a = c.args in Did (blob_steps (found (listed a.table.now) a.image.now)) a.allowed a.image.now c.make_blobs.new.image c.make_blobs.result
repaired c =
    rw (c.gather-n.ensures.0, items_found c.args.image.now (listed c.args.table.now) c.requires.1) at c.make_blobs.ensures.0

pub returns-in_err-left : goal.returns-in_err-left
returns-in_err-left c =
    let out = c.from_residual.ensures.1 in
    (blobs-stop (listed c.args.table.now) (repaired (goal.at.returns-in_err-left c).After-make_blobs) c.in_stage.ensures c.in_err-left.was out, stop-counted _ (went_out out))

pub after_blobs-requires : goal.after_blobs-requires
after_blobs-requires c =
    let like = c.make_blobs.ensures.1 in
    let sectors = ap (λ (x : ℕ). x / 4096) like.size in
    (rw sectors c.requires.0, lies_alike like (listed c.args.table.now) c.requires.1, omega (arith, c.requires.2, c.gather-n.auto.out, c.make_blobs.auto.room), omega (arith, c.requires.3.room, c.gather-n.auto.notes))

pub returns : goal.returns
returns c =
    let after = c.after_blobs.ensures in
    (blobs_on (listed c.args.table.now) (repaired (goal.at.returns c).After-make_blobs) c.in_stage.ensures c.in_ok-left.was after.0, after.1)
