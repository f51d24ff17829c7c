-- `blobs::keep_parts` meets its contract: the parts passed stand in front, and those to come where they stood. Assumes nothing.
use mathlib.Core.Path.{◌≡◌, refl, sym, ap, ◌∙◌}
use mathlib.Core.Bool.{Bool}
use Prim.Native.Nat.{ℕ}
use native.Mathlib.Omega.{arith}
use lib.ListN.{take, get_or}
use Rattle.lists.specs.Lists.{keep}
use Rattle.found.specs.Found.{is_part}
use Rattle.found.specs.Places.{item_at, Placed}
use Rattle.lists.proofs.Each.{each-front}
use Rattle.blobs.proofs.Fronts.{read, rest-past, front-past, rest_put, front-put}
use Rattle.blobs.proofs.front.keep_parts.Goals as goal
use Rattle.blobs.proofs.front.keep_parts.Goals.{After-from, then-is_part, else-is_part}

pub loop-i-init : goal.loop-i-init
unfolding keep
loop-i-init c = record { low = omega arith; rest = refl; front = refl }

-- the turn's place
here : (c : After-from) → c.from.result ≡ get_or c.args.room.now c.loop-i.i 0
here c =
    let l = c.loop-i in
    let i = l.invariant in
    c.from.ensures
    ∙ read (λ (p : ℕ). is_part (item_at c.args.image.now p).raw) l.room c.args.room.now c.args.n l.i l.k c.loop-i-test.true c.requires.1 i.low l.auto.room i.rest i.front

pub is_part-requires : goal.is_part-requires
is_part-requires c =
    let t = c.args.room.now in
    rw (here c) (each-front (Placed c.args.image.now) t c.args.n 0 c.requires.1 c.requires.0 c.loop-i.i c.loop-i-test.true)

pub loop-i-preserved : goal.loop-i-preserved
loop-i-preserved c =
    let l = c.loop-i in
    let i = l.invariant in
    let t = c.args.room.now in
    let n = c.args.n in
    let more = c.loop-i-test.true in
    let P : (ℕ → Bool) = λ (p : ℕ). is_part (item_at c.args.image.now p).raw in
    let test : P (get_or t l.i 0) ≡ c.is_part.result = ap P (sym (here (goal.at.loop-i-preserved c).After-from)) ∙ sym c.is_part.ensures in
    elim c.if-is_part.branch [
      | then-is_part w ↦ rw (w.room-is, w.k-is) record {
        low = omega arith;
        rest = rest_put P l.room t n l.i l.k more c.requires.1 i.low l.auto.room i.rest i.front;
        front = front-put P l.room t n l.i l.k more c.requires.1 i.low l.auto.room i.rest i.front (test ∙ w.if-is_part.true);
      }
      | else-is_part w ↦ rw (w.room-is, w.k-is) record {
        low = omega arith;
        rest = rest-past P l.room t n l.i l.k more c.requires.1 i.low l.auto.room i.rest i.front;
        front = front-past P l.room t n l.i l.k more c.requires.1 i.low l.auto.room i.rest i.front (test ∙ w.if-is_part.false);
      }
    ]

pub returns : goal.returns
returns c =
    let l = c.loop-i in
    let a = c.args in
    let e : l.i ≡ a.n = omega arith in
    (omega arith, l.invariant.front ∙ ap (λ (m : ℕ). keep (λ (p : ℕ). is_part (item_at a.image.now p).raw) (take m a.room.now)) e)
