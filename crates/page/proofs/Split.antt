-- The Written entries of a page are those unread and those inside items. Assumes nothing.
use mathlib.Core.Path.{◌≡◌, refl, ap, ◌∙◌}
use mathlib.Core.Bool.{Bool, true, false}
use mathlib.Core.List.{List}
use Prim.Native.Nat.{ℕ, zero, suc, ◌+◌, ◌-◌, ◌≤◌}
use native.Mathlib.Omega.{arith}
use lib.Dec.{eqb, ltb}
use borrow.Author.Tests.{ltb-true, ltb-false}
use Rattle.entry.specs.States.{one, written, state_at, count_of, totals_of}
use Rattle.entry.specs.Fields.{entry_at, span_of}
use Rattle.entry.proofs.Counting.{count_add, count_ext, count-le}
use Rattle.lists.specs.Lists.{sum_of}
use Rattle.page.specs.State.{state_of, is_free}
use Rattle.page.specs.Walk.{is_item, items_of, walk}
use Rattle.page.specs.Unread.{unread_from, unread_of, written_in}
use Rattle.page.specs.Record.{seen_of, record_of}
use Rattle.page.proofs.Walking.{item_span, raw-span, walk-past, walk_item, walk_skip}
use Rattle.page.proofs.Unread.{unread-past, unread_item, unread_skip}

module _ (t : List ℕ) where
  -- the Written of n entries from entry i on
  abbrev written_from : ℕ → ℕ → ℕ
  written_from i n = count_of (λ j. state_at t (i + j)) written n

  -- the first k of them, and the others
  apart : (i k n : ℕ) → written_from i (k + n) ≡ written_from i k + written_from (i + k) n
  apart i k n =
      count_add written (λ j. state_at t (i + j)) k n
      ∙ ap (λ (x : ℕ). written_from i k + x) (count_ext written _ _ n (λ j h. ap (state_at t) (omega arith)))

  first : (i : ℕ) → written_from i 1 ≡ one (eqb (state_at t i) written)
  unfolding count_of
  first i = let e : i + 0 ≡ i = omega arith in rw e (omega arith)

  abbrev inside : ℕ → ℕ
  inside i = sum_of (written_in t) (walk t 126 i)

  -- an item's own, and those behind it; an entry that no item begins at has none
  inside_item : (i : ℕ) → is_item t i ≡ true → inside i ≡ written_from i (span_of (entry_at t i)) + inside (i + span_of (entry_at t i))
  unfolding sum_of written_in
  inside_item i e = ap (sum_of (written_in t)) (walk_item t i e) ∙ rw (raw-span t i e)

  inside_skip : (i : ℕ) → is_item t i ≡ false → inside i ≡ inside (i + 1)
  inside_skip i e = ap (sum_of (written_in t)) (walk_skip t i e)

  inside_end : (i : ℕ) → 126 ≤ i → inside i ≡ 0
  unfolding sum_of
  inside_end i h = ap (sum_of (written_in t)) (walk-past t 126 i h)

  split_end : (i : ℕ) → 126 ≤ i → written_from i (126 - i) ≡ unread_from t 126 i + inside i
  split_end i h =
      let none : 126 - i ≡ 0 = omega arith in
      let z : written_from i 0 ≡ 0 = unfold count_of in refl in
      let c = ap (written_from i) none in
      let a = unread-past t 126 i h in
      let b = inside_end i h in omega arith

  -- from entry i on, by turns enough
  split_from : (m i : ℕ) → 126 ≤ i + m → i ≤ 126 → written_from i (126 - i) ≡ unread_from t 126 i + inside i
  split_from zero i k h = split_end i (omega arith)
  split_from (suc m) i k h = go (is_item t i) (ltb i 126) refl refl (split_from m)
    where
      go : (b c : Bool) → is_item t i ≡ b → ltb i 126 ≡ c → ((j : ℕ) → 126 ≤ j + m → j ≤ 126 → written_from j (126 - j) ≡ unread_from t 126 j + inside j)
          → written_from i (126 - i) ≡ unread_from t 126 i + inside i
      go b false e q ih = split_end i (ltb-false i 126 q)
      go true true e q ih =
          let s = item_span t i e in
          let p = span_of (entry_at t i) in
          let left : 126 - i ≡ p + (126 - (i + p)) = omega arith in
          let a = ap (written_from i) left ∙ apart i p (126 - (i + p)) in
          let b = ih (i + p) (omega arith) (omega arith) in
          let c = unread_item t i e in
          let d = inside_item i e in
          omega arith
      go false true e q ih =
          let h = ltb-true i 126 q in
          let left : 126 - i ≡ 1 + (126 - (i + 1)) = omega arith in
          let a = ap (written_from i) left ∙ apart i 1 (126 - (i + 1)) in
          let b = ih (i + 1) (omega arith) (omega arith) in
          let c = unread_skip t i e (omega arith) in
          let d = inside_skip i e in
          let f = first i in
          omega arith

  -- from the first entry on
  split_all : count_of (state_at t) written 126 ≡ unread_from t 126 0 + inside 0
  split_all = count_ext written (state_at t) (λ j. state_at t (0 + j)) 126 (λ j h. ap (state_at t) (omega arith)) ∙ split_from 126 0 (omega arith) (omega arith)

  -- the record's Written entries are those unread and those of its items
  pub written-split : (record_of t).written ≡ (record_of t).unread + sum_of (written_in t) (items_of t)
  unfolding record_of seen_of unread_of items_of totals_of
  written-split = go (is_free (state_of t)) refl
    where
      go : (b : Bool) → is_free (state_of t) ≡ b → (record_of t).written ≡ (record_of t).unread + sum_of (written_in t) (items_of t)
      go true e = rw e (unfold sum_of in refl)
      go false e = rw e split_all

  -- so they are no more than the entries
  pub unread_most : unread_from t 126 0 ≤ 126
  unread_most = let a = split_all in let b = count-le written (state_at t) 126 in omega arith
