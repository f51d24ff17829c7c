-- `duplicates::erase_all_old` meets its contract: the old items from here on are left, read where they stood as the call began. Assumes nothing.
use mathlib.Core.Path.{◌≡◌, ap}
use Prim.Native.Nat.{◌+◌, ◌-◌}
use native.Mathlib.Omega.{arith}
use lib.ListN.{length, take, get_or}
use Rattle.flash.specs.Did.{Did}
use Rattle.flash.proofs.Laws.{goes_start, goes_on, goes_out, goes_end, goes_same}
use Rattle.found.specs.Found.{erase_all}
use Rattle.found.specs.Places.{item_at, items_at, Placed}
use Rattle.found.proofs.Alike.{alike_refl, alike_trans, item_alike, each-alike, items_alike}
use Rattle.lists.proofs.Each.{each_at, each_take}
use Rattle.duplicates.specs.Turns.{old_one, last_at}
use Rattle.duplicates.proofs.Taking.{left_from, left_start, left_more, left_end}
use Rattle.duplicates.proofs.old.erase_all_old.Goals as goal
use Rattle.duplicates.proofs.old.erase_all_old.Goals.{After-erase_old}

pub loop-i-init : goal.loop-i-init
loop-i-init c =
    let a = c.args in
    (alike_refl _, goes_same (goes_start _ _ _) (left_start a.image.now a.places.now a.sorted.now))

pub erase_old-requires : goal.erase_old-requires
erase_old-requires c =
    let like = c.loop-i.invariant.0 in
    (each-alike _ _ like _ c.requires.0, each-alike _ _ like _ c.requires.1, omega arith)

-- what a turn erased, in terms of the image as the call began
turn : (c : After-erase_old) →
    let a = c.args in let l = a.image.now in let j = c.loop-i.i - 1 in
    Did (erase_all (old_one (items_at l a.places.now) (item_at l (last_at a.sorted.now)) (items_at l (take j a.sorted.now)) (item_at l (get_or a.sorted.now j 0))))
    c.loop-i.left c.loop-i.image c.erase_old.new.image c.erase_old.result
turn c =
    let l = c.args.image.now in
    let sorted = c.args.sorted.now in
    let j = c.loop-i.i - 1 in
    let like = c.loop-i.invariant.0 in
    let items = items_alike _ _ like _ c.requires.0 in
    let before = items_alike _ _ like _ (each_take (Placed l) j sorted c.requires.1) in
    let x = item_alike _ _ like _ (each_at (Placed l) sorted 0 c.requires.1 j (omega arith)) in
    let k = item_alike _ _ like _ (each_at (Placed l) sorted 0 c.requires.1 (length sorted - 1) (omega arith)) in
    rw (items, before, x, k) at c.erase_old.ensures.0

pub returns-in_err-left : goal.returns-in_err-left
returns-in_err-left c =
    let l = c.loop-i in
    let a = c.args in
    (goes_out _ l.invariant.1 (left_more a.image.now a.places.now a.sorted.now (l.i - 1) (omega arith)) (turn (goal.at.returns-in_err-left c).After-erase_old) c.in_err-left.was c.from_residual.ensures.0, alike_trans l.invariant.0 c.erase_old.ensures.1)

pub loop-i-preserved : goal.loop-i-preserved
loop-i-preserved c =
    let l = c.loop-i in
    let a = c.args in
    let e : l.i - 1 + 1 ≡ l.i + 1 - 1 = omega arith in (
      alike_trans l.invariant.0 c.erase_old.ensures.1,
      goes_same (goes_on l.invariant.1 (left_more a.image.now a.places.now a.sorted.now (l.i - 1) (omega arith)) (turn (goal.at.loop-i-preserved c).After-erase_old) c.in_ok-left.was) (ap (left_from a.image.now a.places.now a.sorted.now) e),
    )

pub returns : goal.returns
returns c =
    let l = c.loop-i in
    let a = c.args in
    (goes_end l.invariant.1 (left_end a.image.now a.places.now a.sorted.now (l.i - 1) (omega arith)), l.invariant.0)
