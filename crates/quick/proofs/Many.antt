-- An item is crowded out only among 65 items or more: each of the 64 slots holds another. So of 64 items or fewer the test answers exactly. Assumes nothing.
use Rattle.std.specs.Prelude.{Option, unwrap_or}
use mathlib.Core.Path.{◌≡◌, refl, ap, ◌∙◌}
use mathlib.Core.Bool.{Bool, true, false, cond}
use mathlib.Core.List.{List}
use Prim.Native.Nat.{ℕ, ◌+◌, ◌-◌, ◌%◌, ◌<◌, ◌≤◌}
use native.Mathlib.Omega.{arith}
use lib.Dec.{eqb, ltb}
use lib.ListN.{get_or, length}
use borrow.Author.Tests.{eq-eqb, ne_eqb}
use Rattle.entry.specs.States.{one}
use Rattle.lists.specs.Lists.{sum_of}
use Rattle.lists.proofs.Numbers.{by_number}
use Rattle.lists.proofs.Range.{sum_to_least}
use Rattle.lists.proofs.Sums.{sum_ext, sum-ge, sum-le, sum_plus}
use Rattle.table.proofs.Places.{length-sum}
use Rattle.slots.specs.Names.{name_of, slot_of}
use Rattle.slots.specs.Slots.{raw_at, stop_of}
use Rattle.quick.specs.Crowded.{Crowded}
use Rattle.quick.proofs.Counts.{in_pos}
use Rattle.slots.proofs.Looking.{slot-below}
use Rattle.quick.proofs.Calming.{among}

module _ (t l ps : List ℕ) (c : Crowded t l ps) where
  abbrev k : ℕ
  k = name_of (raw_at l c.place)

  -- how far from the slot of its name on the search for an item's name ends
  abbrev far : ℕ → ℕ
  far p = (unwrap_or (stop_of t l (name_of (raw_at l p))) 4096 + (4096 - slot_of k)) % 4096

  -- 1 for an item of another name
  abbrev other : ℕ → ℕ
  other p = cond (eqb (name_of (raw_at l p)) k) 0 1

  -- each of the slots has one, which stands in no other
  there : (n : ℕ) → n < 64 → 1 ≤ sum_of (λ (p : ℕ). cond (eqb (far p) n) (other p) 0) ps
  there n h =
      let i = (slot_of k + n) % 4096 in
      let p = get_or t i 0 in
      let f = c.full n h in
      let g = sum-ge (λ (q : ℕ). cond (eqb (far q) n) (other q) 0) ps p (among p ps (c.only i f.0)) in
      let slot : unwrap_or (stop_of t l (name_of (raw_at l p))) 4096 ≡ i = ap (λ (o : Option ℕ). unwrap_or o 4096) (c.stands i f.0) in
      let is : far p ≡ n = omega (arith, slot-below k) in
      let z : cond (eqb (far p) n) (other p) 0 ≡ 1 = rw (eq-eqb (far p) n is, ne_eqb (name_of (raw_at l p)) k f.1) in
      omega arith

  pub many : 65 ≤ length ps
  many =
      let a = sum_to_least (λ n. sum_of (λ (p : ℕ). cond (eqb (far p) n) (other p) 0) ps) 64 there in
      let b = by_number other far ps 64 in
      let d = sum-le (λ (p : ℕ). cond (ltb (far p) 64) (other p) 0) other ps (λ p m. part (ltb (far p) 64) (other p)) in
      let e = in_pos (λ (p : ℕ). eqb (name_of (raw_at l p)) k) ps c.place (among c.place ps c.here) (eq-eqb k k refl) in
      let f = sum_plus other (λ (p : ℕ). one (eqb (name_of (raw_at l p)) k)) ps in
      let g = length-sum ps ∙ sum_ext (λ (p : ℕ). 1) (λ (p : ℕ). other p + one (eqb (name_of (raw_at l p)) k)) ps (λ p m. either (eqb (name_of (raw_at l p)) k)) in
      omega arith
    where
      part : (b : Bool) (n : ℕ) → cond b n 0 ≤ n
      part true n = omega arith
      part false n = omega arith

      either : (b : Bool) → 1 ≡ cond b 0 1 + one b
      either true = refl
      either false = refl
