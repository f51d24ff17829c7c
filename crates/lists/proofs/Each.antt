-- What holds of each member of a list holds at each index, and of lists put together. Assumes nothing.
use mathlib.Core.Path.{refl}
use mathlib.Core.Logic.{inl, inr}
use mathlib.Core.List.{List, [], ◌∷◌, ◌++◌}
use Prim.Native.Nat.{ℕ, zero, suc, ◌<◌, ◌≤◌}
use native.Mathlib.Omega.{arith}
use lib.ListN.{length, get_or, take, drop}
use lib.Seq.{get_or-take, length-take-le}
use Rattle.lists.proofs.Member.{◌∈◌}
use Rattle.lists.specs.Each.{Each}

module _ {A : Type 0} (P : A → Type 0) where
  pub each_at : (xs : List A) (d : A) → Each P xs → (i : ℕ) → i < length xs → P (get_or xs i d)
  unfolding Each
  each_at [] d h i k = absurd (omega arith)
  each_at (x ∷ xs) d h zero k = h.0
  each_at (x ∷ xs) d h (suc i) k = each_at xs d h.1 i (omega arith)

  pub each_nil : Each P []
  unfolding Each
  each_nil = tt

  pub each-rest : (x : A) (xs : List A) → Each P (x ∷ xs) → Each P xs
  unfolding Each
  each-rest x xs h = h.1

  -- what holds of whatever stands in it
  pub each_of : (xs : List A) → ((x : A) → x ∈ xs → P x) → Each P xs
  unfolding Each
  each_of [] f = tt
  each_of (x ∷ xs) f = (f x (inl refl), each_of xs (λ y m. f y (inr m)))

  pub of_each : (xs : List A) → Each P xs → (x : A) → x ∈ xs → P x
  unfolding Each
  of_each [] h x m = absurd m
  of_each (y ∷ xs) h x (inl e) = rw e h.0
  of_each (y ∷ xs) h x (inr m) = of_each xs h.1 x m

  pub each_append : (xs ys : List A) → Each P xs → Each P ys → Each P (xs ++ ys)
  unfolding Each
  each_append [] ys p q = q
  each_append (x ∷ xs) ys p q = (p.0, each_append xs ys p.1 q)

  -- a front of the list, and what lies behind it
  pub each_take : (k : ℕ) (xs : List A) → Each P xs → Each P (take k xs)
  unfolding Each
  each_take zero xs h = tt
  each_take (suc k) [] h = tt
  each_take (suc k) (x ∷ xs) h = (h.0, each_take k xs h.1)

  pub each-drop : (k : ℕ) (xs : List A) → Each P xs → Each P (drop k xs)
  unfolding Each
  each-drop zero xs h = h
  each-drop (suc k) [] h = tt
  each-drop (suc k) (x ∷ xs) h = each-drop k xs h.1

  -- the front of an array
  pub each-front : (xs : List A) (k : ℕ) (d : A) → k ≤ length xs → Each P (take k xs) → (i : ℕ) → i < k → P (get_or xs i d)
  each-front xs k d room h i g =
      rw (get_or-take k xs i d g) at (each_at (take k xs) d h i (rw (length-take-le k xs room) g))
