-- `slots::stop_of` meets its contract: the search from the slot reached is the search from the first. Assumes nothing.
use mathlib.Core.Path.{◌≡◌, sym, ap, ◌∙◌}
use mathlib.Core.Bool.{true, false}
use Prim.Native.Nat.{◌-◌}
use native.Mathlib.Omega.{arith}
use borrow.Author.Tests.{eq-eqb, ne_eqb}
use Rattle.page.proofs.Tests.{either_second}
use Rattle.found.specs.Ranks.{rank_number}
use Rattle.slots.specs.Slots.{stop, stop_of}
use Rattle.slots.proofs.Looking.{ends, stop_here, stop_on, stop_end}
use Rattle.slots.proofs.stop_of.Goals as goal
use Rattle.slots.proofs.stop_of.Goals.{then-place-eq0-via-then-place-eq0, then-place-eq0-via-else-place-eq0+then-has_name}

pub loop-init : goal.loop-init
unfolding stop_of
loop-init c =
    let a = c.args in
    (c.slot_of-i.ensures.1, ap (stop a.slots.now a.image.now (rank_number a.name) 64) c.slot_of-i.ensures.0)

pub returns-then-place-eq0 : goal.returns-then-place-eq0
returns-then-place-eq0 c =
    let a = c.args in
    let l = c.loop in
    let here : ends a.slots.now a.image.now (rank_number a.name) l.i ≡ true =
    elim c.then-place-eq0.branch [
      | then-place-eq0-via-then-place-eq0 w ↦ rw (eq-eqb _ 0 (sym c.from-place.ensures ∙ w.if-place-eq0.true))
      | then-place-eq0-via-else-place-eq0+then-has_name w ↦ either_second _ _ (rw c.from-place.ensures at (sym w.has_name.ensures ∙ w.if-has_name.true))
    ] in
    (sym (stop_here a.slots.now a.image.now (rank_number a.name) l.counter l.i c.loop-test.true here) ∙ l.invariant.1, l.invariant.0)

pub loop-preserved : goal.loop-preserved
loop-preserved c =
    let a = c.args in
    let l = c.loop in
    let miss : ends a.slots.now a.image.now (rank_number a.name) l.i ≡ false =
    rw (ne_eqb _ 0 (rw c.from-place.ensures at c.if-place-eq0.false)) (rw c.from-place.ensures at (sym c.has_name.ensures ∙ c.if-has_name.false)) in
    (omega arith, sym (stop_on a.slots.now a.image.now (rank_number a.name) l.counter l.i c.loop-test.true miss) ∙ l.invariant.1)

pub returns : goal.returns
returns c =
    let a = c.args in
    let none : 64 - c.loop.counter ≡ 0 = omega arith in
    (sym (stop_end a.slots.now a.image.now (rank_number a.name) _) ∙ rw none at c.loop.invariant.1, tt)
