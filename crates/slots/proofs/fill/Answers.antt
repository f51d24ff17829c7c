-- `slots::fill` meets its contract: the judged items at the places passed are in the table; it stops at one whose name, or no slot, the search ends at. Assumes nothing.
use Rattle.std.specs.Prelude.{None}
use mathlib.Core.Path.{refl, ◌≡◌, sym, ◌∙◌}
use mathlib.Core.Bool.{true}
use mathlib.Core.List.{List, ◌++◌}
use Prim.Native.Nat.{ℕ}
use native.Mathlib.Omega.{arith}
use lib.ListN.{get_or}
use lib.Seq.{take_all}
use Rattle.lists.proofs.Member.{true≢false}
use Rattle.found.specs.Places.{Placed}
use Rattle.lists.proofs.Each.{each_at}
use Rattle.slots.specs.Names.{judged, name_of}
use Rattle.slots.specs.Slots.{raw_at, stop_of, told}
use Rattle.slots.specs.Named.{Named, Stopped}
use Rattle.slots.proofs.Filling.{filled_none, passed, put, stopped}
use Rattle.slots.proofs.Looking.{told_some}
use Rattle.slots.proofs.fill.Goals as goal
use Rattle.slots.proofs.fill.Goals.{After-from-place, After-stop_of}

-- this turn's place
there : (c : After-from-place) → Placed c.args.image.now c.from-place.result
there c =
    rw c.from-place.ensures (each_at (Placed c.args.image.now) c.args.places.now 0 c.requires.0 c.loop-item.item-index (omega arith))

pub loop-item-init : goal.loop-item-init
loop-item-init c = filled_none c.args.slots.now c.args.image.now c.args.places.now c.requires.1

pub is_judged-requires : goal.is_judged-requires
is_judged-requires c = there c

pub loop-item-preserved-then-not-is_judged : goal.loop-item-preserved-then-not-is_judged
loop-item-preserved-then-not-is_judged c =
    let a = c.args in
    passed a.slots.now c.loop-item.slots a.image.now a.places.now c.loop-item.item-index (omega arith) c.loop-item.invariant
    (rw c.from-place.ensures at (sym c.is_judged.ensures ∙ c.if-not-is_judged.true))

pub name_at-requires : goal.name_at-requires
name_at-requires c = there (goal.at.name_at-requires c).After-from-place

-- this turn's item, which is judged: where the search for its name ends
judges : (c : After-stop_of) → judged (raw_at c.args.image.now (get_or c.args.places.now c.loop-item.item-index 0)) ≡ true
judges c = rw c.from-place.ensures at (sym c.is_judged.ensures ∙ c.if-not-is_judged.false)

ends : (c : After-stop_of) →
    let a = c.args in
    stop_of c.loop-item.slots a.image.now (name_of (raw_at a.image.now (get_or a.places.now c.loop-item.item-index 0))) ≡ c.stop_of.result
ends c = rw (rw c.from-place.ensures at c.name_at.ensures) at (sym c.stop_of.ensures.0)

-- it stops here
stops : (c : After-stop_of) →
    let a = c.args in
    let k = name_of (raw_at a.image.now (get_or a.places.now c.loop-item.item-index 0)) in
    (told c.loop-item.slots a.image.now k ≡ 0 → stop_of c.loop-item.slots a.image.now k ≡ None)
    → (xs : List ℕ) → Named a.slots.now a.image.now xs → Stopped c.loop-item.slots a.image.now (xs ++ a.places.now)
stops c none =
    let a = c.args in
    stopped a.slots.now c.loop-item.slots a.image.now a.places.now c.loop-item.item-index (omega arith) c.loop-item.invariant (judges c) none

pub returns-in_default : goal.returns-in_default
returns-in_default c =
    let s = (goal.at.returns-in_default c).After-stop_of in
    (λ e. absurd (true≢false e refl), λ e. stops s (λ z. ends s ∙ c.in_default.is))

pub returns-then-slots-free-ne0 : goal.returns-then-slots-free-ne0
returns-then-slots-free-ne0 c =
    let s = (goal.at.returns-then-slots-free-ne0 c).After-stop_of in
    (λ e. absurd (true≢false e refl), λ e. stops s (λ z. absurd (c.if-slots-free-ne0.true (sym (told_some c.loop-item.slots c.args.image.now _ c.in-Some.free (ends s ∙ c.in-Some.is)) ∙ z))))

pub loop-item-preserved : goal.loop-item-preserved
loop-item-preserved c =
    let a = c.args in
    let s = (goal.at.loop-item-preserved c).After-stop_of in
    let here = rw c.from-place.ensures at (there (goal.at.loop-item-preserved c).After-from-place) in
    put a.slots.now c.loop-item.slots a.image.now a.places.now c.loop-item.item-index (omega arith) c.loop-item.invariant here (judges s) c.in-Some.free (ends s ∙ c.in-Some.is) c.if-slots-free-ne0.false

pub returns : goal.returns
returns c =
    let l = c.loop-item in
    (λ e. rw (take_all l.item-index c.args.places.now (omega arith)) at l.invariant, λ e. absurd (true≢false refl e))
