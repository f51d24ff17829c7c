-- What a read passes over unread: the turns of it, and what the walk from its place on has unread is that and what lies behind the next item. Assumes nothing.
use mathlib.Core.Path.{◌≡◌, refl, sym, ap, ◌∙◌}
use mathlib.Core.Bool.{Bool, true, false, cond}
use mathlib.Core.List.{List, [], ◌∷◌}
use Prim.Native.Nat.{ℕ, zero, suc, ◌+◌, ◌<◌, ◌≤◌}
use native.Mathlib.Omega.{arith}
use lib.Dec.{eqb, ltb}
use borrow.Author.Tests.{ltb-true, ltb-false}
use Rattle.entry.specs.States.{one, written, state_at}
use Rattle.entry.specs.Fields.{entry_at, span_of}
use Rattle.page.specs.Walk.{Laid, is_item, laid_at, walk}
use Rattle.page.specs.Unread.{unread_at, unread_from, passed_from}
use Rattle.page.proofs.Walking.{raw-span, past_end, walk-past, walk_item, walk_skip}
use Rattle.page.proofs.Unread.{at_past, at_other, unread-past, unread_item, unread_skip}

module _ (t : List ℕ) where
  turn_over : (n i : ℕ) → is_item t i ≡ false → passed_from t (suc n) i ≡ one (unread_at t i) + passed_from t n (i + 1)
  unfolding passed_from
  turn_over n i e = rw e

  pub passed-past : (n i : ℕ) → 126 ≤ i → passed_from t n i ≡ 0
  passed-past zero i h = unfold passed_from in refl
  passed-past (suc n) i h = let a = at_past t i h in let b = passed-past n (i + 1) (omega arith) in turn_over n i (past_end t i h) ∙ omega arith

  -- more turns than entries are left change nothing
  pub passed-enough : (n m i : ℕ) → 126 ≤ i + n → 126 ≤ i + m → passed_from t n i ≡ passed_from t m i
  unfolding passed_from
  passed-enough zero m i hn hm = sym (passed-past m i (omega arith))
  passed-enough (suc n) zero i hn hm = passed-past (suc n) i (omega arith)
  passed-enough (suc n) (suc m) i hn hm = ap (λ (k : ℕ). cond (is_item t i) 0 (one (unread_at t i) + k)) (passed-enough n m (i + 1) (omega arith) (omega arith))

  -- nothing is passed where an item begins
  pub passed_item : (i : ℕ) → is_item t i ≡ true → passed_from t 126 i ≡ 0
  unfolding passed_from
  passed_item i e = rw e

  -- where none does, the entry is passed over, and unread if it is Written
  pub passed_skip : (i : ℕ) → is_item t i ≡ false → i < 126 → passed_from t 126 i ≡ one (eqb (state_at t i) written) + passed_from t 126 (i + 1)
  passed_skip i e h = let a = at_other t i e h in let b = passed-enough 125 126 (i + 1) (omega arith) (omega arith) in turn_over 125 i e ∙ omega arith

  -- the place behind the first of the items that the walk still meets; the end, where it meets none
  abbrev behind : List Laid → ℕ
  behind [] = 126
  behind (x ∷ xs) = x.entry + span_of x.raw

  -- what is unread from entry i on, by turns enough: what is passed over, and what lies behind the next item
  abbrev Apart : ℕ → Type 0
  Apart i = unread_from t 126 i ≡ passed_from t 126 i + unread_from t 126 (behind (walk t 126 i))

  apart_end : (i : ℕ) → 126 ≤ i → Apart i
  apart_end i h =
      let a = unread-past t 126 i h in
      let b = passed-past 126 i h in
      let c = unread-past t 126 126 (omega arith) in
      rw (walk-past t 126 i h) (omega arith)

  apart : (n i : ℕ) → 126 ≤ i + n → Apart i
  apart zero i k = apart_end i (omega arith)
  apart (suc n) i k = go (is_item t i) (ltb i 126) refl refl (apart n (i + 1) (omega arith))
    where
      go : (b c : Bool) → is_item t i ≡ b → ltb i 126 ≡ c → Apart (i + 1) → Apart i
      go b false e q ih = apart_end i (ltb-false i 126 q)
      go true true e q ih = let a = unread_item t i e in let b = passed_item i e in rw (walk_item t i e, raw-span t i e) (omega arith)
      go false true e q ih =
          let h = ltb-true i 126 q in
          let a = unread_skip t i e h in
          let b = passed_skip i e h in
          rw (walk_skip t i e) (omega arith)

  -- where the walk meets no item more, all that is unread is passed over; where it meets one, the rest is what the walk behind it has unread
  pub passed_to_end : (i : ℕ) → walk t 126 i ≡ [] → unread_from t 126 i ≡ passed_from t 126 i
  passed_to_end i w =
      let a = apart 126 i (omega arith) in
      let b = ap (λ (xs : List Laid). unread_from t 126 (behind xs)) w in
      let c = unread-past t 126 126 (omega arith) in omega arith

  pub passed_to_item : (i j : ℕ) → is_item t j ≡ true → walk t 126 i ≡ laid_at t j ∷ walk t 126 (j + span_of (entry_at t j))
      → unread_from t 126 i ≡ passed_from t 126 i + unread_from t 126 (j + span_of (entry_at t j))
  passed_to_item i j e w =
      let a = apart 126 i (omega arith) in
      let b = ap (λ (xs : List Laid). unread_from t 126 (behind xs)) w in
      let c = ap (λ (n : ℕ). unread_from t 126 (j + n)) (raw-span t j e) in omega arith
