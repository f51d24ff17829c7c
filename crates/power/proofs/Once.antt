-- The walk goes on, so it meets each entry once at most, and a sum over the items is that over the others and its own part.
-- Assumes nothing.
use mathlib.Core.Path.{◌≡◌, ap, refl, sym}
use mathlib.Core.Logic.{inl, inr}
use mathlib.Core.Bool.{Bool, cond, false, not, true}
use mathlib.Core.List.{List, [], ◌∷◌}
use Prim.Native.Nat.{◌+◌, ◌<◌, suc, zero, ℕ}
use native.Mathlib.Omega.{arith}
use lib.Dec.{eqb}
use borrow.Author.Tests.{eq-eqb, ne_eqb}
use Rattle.page.specs.State.{is_free, state_of}
use Rattle.page.specs.Walk.{Laid, is_item, items_of, laid_at, on_from, walk}
use Rattle.page.proofs.Walking.{goes_on}
use Rattle.page.proofs.Items.{walk_from}
use Rattle.lists.specs.Lists.{keep, sum_of}
use Rattle.lists.proofs.Search.{keep_all}
use Rattle.lists.proofs.Member.{◌∈◌}

-- the items but the one at entry e
abbrev pub but : ℕ → List Laid → List Laid
but e xs = keep (λ (i : Laid). not (eqb i.entry e)) xs

-- the items of a page are those of its walk
pub items_in : (t : List ℕ) (x : Laid) → x ∈ items_of t → (is_free (state_of t) ≡ false) × (x ∈ walk t 126 0)
unfolding items_of
items_in t x m = go (is_free (state_of t)) refl m
  where
    go : (b : Bool) → is_free (state_of t) ≡ b → x ∈ cond b [] (walk t 126 0) → (is_free (state_of t) ≡ false) × (x ∈ walk t 126 0)
    go true e k = absurd k
    go false e k = (e, k)

module _ (t : List ℕ) (f : Laid → ℕ) (x : Laid) where
  walk-but : (m i : ℕ) → x ∈ walk t m i → sum_of f (but x.entry (walk t m i)) + f x ≡ sum_of f (walk t m i)
  unfolding walk keep sum_of
  walk-but zero i w = absurd w
  walk-but (suc m) i w = go (is_item t i) (on_from t i) (goes_on t i) w (walk-but m (on_from t i))
    where
      -- all that the walk meets from entry j on stays
      all : (j : ℕ) → x.entry < j → but x.entry (walk t m j) ≡ walk t m j
      all j h =
          keep_all (λ (i : Laid). not (eqb i.entry x.entry)) (walk t m j)
          (λ y k. rw (ne_eqb y.entry x.entry (λ q. let a = walk_from t m j y k in omega arith)))

      go : (b : Bool) (j : ℕ) → i < j → x ∈ cond b (laid_at t i ∷ walk t m j) (walk t m j)
          → (x ∈ walk t m j → sum_of f (but x.entry (walk t m j)) + f x ≡ sum_of f (walk t m j))
          → sum_of f (but x.entry (cond b (laid_at t i ∷ walk t m j) (walk t m j))) + f x ≡ sum_of f (cond b (laid_at t i ∷ walk t m j) (walk t m j))
      go true j h (inl r) ih =
          let a : x.entry ≡ i = ap (λ (y : Laid). y.entry) r in
          let b : f x ≡ f (laid_at t i) = ap f r in
          rw (eq-eqb i x.entry (sym a), all j (omega arith)) (omega arith)
      go true j h (inr k) ih =
          let a = walk_from t m j x k in
          let b = ih k in
          rw (ne_eqb i x.entry (λ q. omega arith)) (omega arith)
      go false j h k ih = ih k

-- a sum over the items: what the others have and what this one has
pub sum-but : (t : List ℕ) (f : List ℕ → ℕ) (x : Laid) → x ∈ items_of t
    → sum_of (λ (i : Laid). f i.raw) (but x.entry (items_of t)) + f x.raw ≡ sum_of (λ (i : Laid). f i.raw) (items_of t)
unfolding items_of
sum-but t f x m = let r = items_in t x m in rw r.0 (walk-but t (λ (i : Laid). f i.raw) x 126 0 r.1)
