-- Two sectors that differ in entry states alone. Where those of one item's span differ, but not its header's, the walk meets the same items; where they are
-- all Erased, it meets the same but this one. Assumes nothing.
use mathlib.Core.Path.{◌∙◌, ◌≡◌, ap, refl, sym}
use mathlib.Core.Logic.{◌⊎◌, inl, inr, ⊎_elim}
use mathlib.Core.Bool.{Bool, cond, false, true}
use mathlib.Core.List.{List, ◌∷◌}
use Prim.Native.Nat.{◌+◌, ◌<◌, ◌≤◌, suc, zero, ℕ}
use native.Mathlib.Omega.{arith}
use lib.ListN.{drop}
use borrow.Author.Tests.{eq-eqb, ne_eqb}
use Rattle.entry.specs.States.{state_at}
use Rattle.entry.specs.Fields.{entry_at, span_of}
use Rattle.page.specs.State.{state_of}
use Rattle.page.specs.Walk.{Laid, is_item, items_of, laid_at, on_from, walk}
use Rattle.page.proofs.Walking.{goes_on, item_span, walk_item, walk-past, walk_skip}
use Rattle.lists.specs.Lists.{keep}
use Rattle.lists.proofs.Member.{◌∈◌}
use Rattle.page.proofs.Items.{no_item, walk_from}
use Rattle.page.proofs.Thinned.{at_same, item_same}
use Rattle.power.proofs.Once.{but, items_in}

-- a turn of the walk, and what is left of it without entry e
module _ (t : List ℕ) (e m : ℕ) where
  but-this : is_item t e ≡ true → but e (walk t (suc m) e) ≡ but e (walk t m (e + span_of (entry_at t e)))
  unfolding walk keep
  but-this q = rw (q, eq-eqb e e refl)

  but-other : (i : ℕ) → is_item t i ≡ true → (i ≡ e → ⊥) → but e (walk t (suc m) i) ≡ laid_at t i ∷ but e (walk t m (i + span_of (entry_at t i)))
  unfolding walk keep
  but-other i q ne = rw (q, ne_eqb i e ne)

  but_none : (i : ℕ) → is_item t i ≡ false → but e (walk t (suc m) i) ≡ but e (walk t m (i + 1))
  unfolding walk
  but_none i q = rw q

-- T as it was and U as it is: from byte 64 on they are the same
module _ (T U : List ℕ) (rest : drop 64 U ≡ drop 64 T) where
  -- the item at entry e, of span n; the states of the other entries are the same
  module _ (e n : ℕ) (is : is_item T e ≡ true) (span : span_of (entry_at T e) ≡ n)
      (same : (i : ℕ) → (i < e) ⊎ (e + n ≤ i) → state_at U i ≡ state_at T i) where
    -- the walk of T from entry i on meets the item, or is behind it
    abbrev Met : ℕ → ℕ → Type 0
    Met m i = (laid_at T e ∈ walk T m i) ⊎ (e + n ≤ i)

    -- so a turn is at the item, or at an entry beside its span
    abbrev Turn : ℕ → ℕ → ℕ → Type 0
    Turn m i j = (i ≡ e) ⊎ (((i < e) ⊎ (e + n ≤ i)) × Met m j)

    turn : (m i : ℕ) → Met (suc m) i → Turn m i (on_from T i)
    unfolding walk
    turn m i (inr h) = let g = goes_on T i in inr (inr h, inr (omega arith))
    turn m i (inl w) = go (is_item T i) (on_from T i) (goes_on T i) w
      where
        go : (b : Bool) (j : ℕ) → i < j → laid_at T e ∈ cond b (laid_at T i ∷ walk T m j) (walk T m j) → Turn m i j
        go true j h (inl r) = inl (sym (ap (λ (y : Laid). y.entry) r))
        go true j h (inr k) = let a = walk_from T m j (laid_at T e) k in inr (inl (omega arith), inl k)
        go false j h k = let a = walk_from T m j (laid_at T e) k in inr (inl (omega arith), inl k)

    -- ---- the header's state is the same
    module _ (head : state_at U e ≡ state_at T e) where
      walk_kept : (m i : ℕ) → Met m i → walk U m i ≡ walk T m i
      unfolding walk
      walk_kept zero i w = refl
      walk_kept (suc m) i w = go (turn m i w) (walk_kept m)
        where
          step : state_at U i ≡ state_at T i → walk U m (on_from T i) ≡ walk T m (on_from T i) → walk U (suc m) i ≡ walk T (suc m) i
          step s q = rw (item_same T U rest i s, at_same T U rest i, q)

          go : Turn m i (on_from T i) → ((j : ℕ) → Met m j → walk U m j ≡ walk T m j) → walk U (suc m) i ≡ walk T (suc m) i
          go (inl q) ih = step (rw q head) (ih (on_from T i) (inr (rw (q, is) (omega arith))))
          go (inr r) ih = step (same i r.0) (ih (on_from T i) r.1)

      -- the same items
      pub items_kept : laid_at T e ∈ items_of T → state_of U ≡ state_of T → items_of U ≡ items_of T
      unfolding items_of
      items_kept m s = rw (s, walk_kept 126 0 (inl (items_in T (laid_at T e) m).1))

    -- ---- each entry of the span is Erased
    module _ (gone : (i : ℕ) → e ≤ i → i < e + n → state_at U i ≡ 0) where
      -- the walk goes over them
      over : (k i : ℕ) → e ≤ i → i + k ≡ e + n → walk U 126 i ≡ walk U 126 (e + n)
      over zero i h q = let r : i ≡ e + n = omega arith in rw r
      over (suc k) i h q = walk_skip U i (no_item U i (λ k w. let z = gone i h (omega arith) in omega arith)) ∙ over k (i + 1) (omega arith) (omega arith)

      walk-gone : (m i : ℕ) → 126 ≤ i + m → Met m i → walk U 126 i ≡ but e (walk T m i)
      unfolding keep
      walk-gone zero i h w = walk-past U 126 i (omega arith) ∙ sym (ap (but e) (walk-past T 0 i (omega arith)))
      walk-gone (suc m) i h w = go (turn m i w) (goes_on T i) (walk-gone m)
        where
          step : (b : Bool) → is_item T i ≡ b → is_item U i ≡ b → (i ≡ e → ⊥) → walk U 126 (on_from T i) ≡ but e (walk T m (on_from T i))
              → walk U 126 i ≡ but e (walk T (suc m) i)
          step true p q ne ih = walk_item U i q ∙ rw (at_same T U rest i) (ap {B = List Laid} (λ (r : List Laid). laid_at T i ∷ r) (rw p at ih)) ∙ sym (but-other T e m i p ne)
          step false p q ne ih = walk_skip U i q ∙ (rw p at ih) ∙ sym (but_none T e m i p)

          go : Turn m i (on_from T i) → i < on_from T i → ((j : ℕ) → 126 ≤ j + m → Met m j → walk U 126 j ≡ but e (walk T m j))
              → walk U 126 i ≡ but e (walk T (suc m) i)
          go (inl q) g ih =
              let s = item_span T e is in
              rw q (over n e (omega arith) refl ∙ ih (e + n) (omega arith) (inr (omega arith)) ∙ rw (← span) (sym (but-this T e m is)))
          go (inr r) g ih =
              let s = item_span T e is in
              let ne : (i ≡ e → ⊥) = (λ q. ⊎_elim (λ h. omega arith) (λ h. omega arith) r.0) in
              step (is_item T i) refl (item_same T U rest i (same i r.0)) ne (ih (on_from T i) (omega arith) r.1)

      -- the same but this one
      pub items-gone : laid_at T e ∈ items_of T → state_of U ≡ state_of T → items_of U ≡ but e (items_of T)
      unfolding items_of
      items-gone m s = let r = items_in T (laid_at T e) m in rw (s, r.0) (walk-gone 126 0 (omega arith) (inl r.1))
