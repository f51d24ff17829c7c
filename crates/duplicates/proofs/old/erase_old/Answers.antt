-- `duplicates::erase_old` meets its contract: the item, then its chunks, which stand where they stood. Assumes nothing.
use mathlib.Core.Path.{◌≡◌, sym, ◌∙◌}
use Prim.Native.Nat.{◌-◌}
use native.Mathlib.Omega.{arith}
use lib.ListN.{length, take, get_or}
use Rattle.flash.proofs.Laws.{goes_start, goes_on, goes_out, goes_same, goes_end, goes_last}
use Rattle.found.specs.Places.{item_at, items_at, Placed}
use Rattle.found.proofs.Alike.{alike_trans, placed_alike, item_alike, each-alike, items_alike}
use Rattle.lists.proofs.Each.{each_at, each_take}
use Rattle.duplicates.specs.Turns.{takes_chunks, last_at}
use Rattle.duplicates.proofs.Taking.{one_steps, with-chunks, with_none}
use Rattle.duplicates.proofs.old.erase_old.Goals as goal
use Rattle.duplicates.proofs.old.erase_old.Goals.{After-takes_chunks, Start}

-- an old item, and the kept one, stand as the call begins
old_placed : (c : Start) → Placed c.args.image.now (get_or c.args.sorted.now c.args.i 0)
old_placed c = each_at (Placed c.args.image.now) c.args.sorted.now 0 c.requires.1 c.args.i c.requires.2

kept_placed : (c : Start) → Placed c.args.image.now (last_at c.args.sorted.now)
kept_placed c = each_at (Placed c.args.image.now) c.args.sorted.now 0 c.requires.1 (length c.args.sorted.now - 1) (omega (arith, c.requires.2))

pub span_at-span-requires : goal.span_at-span-requires
span_at-span-requires c = rw c.from-place.ensures (old_placed (goal.at.span_at-span-requires c).Start)

pub erase_at-requires : goal.erase_at-requires
erase_at-requires c =
    (rw c.from-place.ensures (old_placed (goal.at.erase_at-requires c).Start), c.span_at-span.ensures.2)

pub returns-in_err-left : goal.returns-in_err-left
returns-in_err-left c =
    let e = c.erase_at.ensures in
    let did = rw (c.span_at-span.ensures.0, c.from-place.ensures) at e.0 in
    (goes_out _ (goes_start _ _ _) (one_steps _ _ _ _) did c.in_err-left.was c.from_residual.ensures.0, e.1)

pub takes_chunks-requires : goal.takes_chunks-requires
takes_chunks-requires c =
    let like = c.erase_at.ensures.1 in (
      each-alike _ _ like _ (each_take (Placed c.args.image.now) c.args.i c.args.sorted.now c.requires.1),
      rw c.from-place.ensures (placed_alike _ _ like _ (old_placed (goal.at.takes_chunks-requires c).Start)),
      rw c.from-kept.ensures (placed_alike _ _ like _ (kept_placed (goal.at.takes_chunks-requires c).Start)),
    )

-- the answer is that of the image as the call began
told : (c : After-takes_chunks) →
    let a = c.args in let l = a.image.now in
    c.takes_chunks.result ≡ takes_chunks (items_at l (take a.i a.sorted.now)) (item_at l (last_at a.sorted.now)) (item_at l (get_or a.sorted.now a.i 0))
told c =
    let l = c.args.image.now in
    let like = c.erase_at.ensures.1 in
    let before = items_alike _ _ like _ (each_take (Placed l) c.args.i c.args.sorted.now c.requires.1) in
    let x = item_alike _ _ like _ (each_at (Placed l) c.args.sorted.now 0 c.requires.1 c.args.i c.requires.2) in
    let k = item_alike _ _ like _ (each_at (Placed l) c.args.sorted.now 0 c.requires.1 (length c.args.sorted.now - 1) (omega (arith, c.requires.2))) in
    rw (c.from-place.ensures, c.from-kept.ensures, before, x, k) at c.takes_chunks.ensures

pub version_at-requires : goal.version_at-requires
version_at-requires c =
    rw c.from-place.ensures (placed_alike _ _ c.erase_at.ensures.1 _ (old_placed (goal.at.version_at-requires c).Start))

pub erase_chunks-requires : goal.erase_chunks-requires
erase_chunks-requires c =
    each-alike _ _ c.erase_at.ensures.1 _ c.requires.0

pub returns-then-takes_chunks : goal.returns-then-takes_chunks
returns-then-takes_chunks c =
    let e = c.erase_at.ensures in
    let f = c.erase_chunks.ensures in
    let did = rw (c.span_at-span.ensures.0, c.from-place.ensures) at e.0 in
    let items = items_alike _ _ e.1 c.args.places.now c.requires.0 in
    let x = item_alike _ _ e.1 _ (old_placed (goal.at.returns-then-takes_chunks c).Start) in
    let chunks = rw (c.version_at.ensures.0, c.from-place.ensures, items, x) at f.0 in
    let rest = with-chunks (items_at c.args.image.now c.args.places.now) _ _ _ (sym (told (goal.at.returns-then-takes_chunks c).After-takes_chunks) ∙ c.if-takes_chunks.true) in
    (goes_last (goes_same (goes_on (goes_start _ _ _) (one_steps _ _ _ _) did c.in_ok-left.was) rest) chunks, alike_trans e.1 f.1)

pub returns-else-takes_chunks : goal.returns-else-takes_chunks
returns-else-takes_chunks c =
    let e = c.erase_at.ensures in
    let did = rw (c.span_at-span.ensures.0, c.from-place.ensures) at e.0 in
    let rest = with_none (items_at c.args.image.now c.args.places.now) _ _ _ (sym (told (goal.at.returns-else-takes_chunks c).After-takes_chunks) ∙ c.if-takes_chunks.false) in
    (goes_end (goes_on (goes_start _ _ _) (one_steps _ _ _ _) did c.in_ok-left.was) rest, e.1)
