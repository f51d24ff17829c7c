-- Sums and the greatest, by what each member adds. Assumes nothing.
use mathlib.Core.Path.{◌≡◌, refl, sym, ap, ◌∙◌}
use mathlib.Core.Logic.{inl, inr}
use mathlib.Core.Bool.{Bool, true, false, cond}
use mathlib.Core.List.{List, [], ◌∷◌, ◌++◌}
use Prim.Native.Nat.{ℕ, ◌+◌, ◌≤◌, ◌<◌}
use native.Mathlib.Nat.{add-zero}
use native.Mathlib.Omega.{arith}
use Rattle.lists.specs.Lists.{keep, sum_of, greatest}
use Rattle.lists.proofs.Member.{◌∈◌}

module _ {A : Type 0} where
  -- ---- greatest
  pub greatest-ge : (f : A → ℕ) (xs : List A) (y : A) → y ∈ xs → f y ≤ greatest f xs
  unfolding greatest
  greatest-ge f [] y m = absurd m
  greatest-ge f (x ∷ xs) y (inl r) = let q : f y ≡ f x = ap f r in omega arith
  greatest-ge f (x ∷ xs) y (inr m) = let q = greatest-ge f xs y m in omega arith

  -- below a bound that all members are below
  pub greatest-lt : (f : A → ℕ) (xs : List A) (b : ℕ) → 0 < b → ((y : A) → y ∈ xs → f y < b) → greatest f xs < b
  unfolding greatest
  greatest-lt f [] b g h = g
  greatest-lt f (x ∷ xs) b g h = let q = greatest-lt f xs b g (λ y m. h y (inr m)) in let r = h x (inl refl) in omega arith

  -- ---- sums
  pub sum-append : (f : A → ℕ) (a b : List A) → sum_of f (a ++ b) ≡ sum_of f a + sum_of f b
  unfolding sum_of
  sum-append f [] b = omega arith
  sum-append f (x ∷ a) b = let q = sum-append f a b in omega arith

  -- a member adds its part
  pub sum-ge : (f : A → ℕ) (xs : List A) (y : A) → y ∈ xs → f y ≤ sum_of f xs
  unfolding sum_of
  sum-ge f [] y m = absurd m
  sum-ge f (x ∷ xs) y (inl r) = let q : f y ≡ f x = ap f r in omega arith
  sum-ge f (x ∷ xs) y (inr m) = let q = sum-ge f xs y m in omega arith

  -- a sum of nothing but zeros; of the same; of what is kept
  pub sum-zero : (f : A → ℕ) (xs : List A) → ((y : A) → y ∈ xs → f y ≡ 0) → sum_of f xs ≡ 0
  unfolding sum_of
  sum-zero f [] h = refl
  sum-zero f (x ∷ xs) h = let q = sum-zero f xs (λ y m. h y (inr m)) in let r = h x (inl refl) in omega arith

  pub sum_ext : (f g : A → ℕ) (xs : List A) → ((y : A) → y ∈ xs → f y ≡ g y) → sum_of f xs ≡ sum_of g xs
  unfolding sum_of
  sum_ext f g [] h = refl
  sum_ext f g (x ∷ xs) h = let q = sum_ext f g xs (λ y m. h y (inr m)) in let r = h x (inl refl) in omega arith

  pub sum-keep : (p : A → Bool) (f : A → ℕ) (xs : List A) → sum_of f (keep p xs) ≡ sum_of (λ (x : A). cond (p x) (f x) 0) xs
  unfolding sum_of keep
  sum-keep p f [] = refl
  sum-keep p f (x ∷ xs) = go (p x) (sum-keep p f xs)
    where
      go : (b : Bool) → sum_of f (keep p xs) ≡ sum_of (λ (x : A). cond (p x) (f x) 0) xs
          → sum_of f (cond b (x ∷ keep p xs) (keep p xs)) ≡ cond b (f x) 0 + sum_of (λ (x : A). cond (p x) (f x) 0) xs
      go true q = omega arith
      go false q = omega arith

  -- member by member
  pub sum-le : (f g : A → ℕ) (xs : List A) → ((y : A) → y ∈ xs → f y ≤ g y) → sum_of f xs ≤ sum_of g xs
  unfolding sum_of
  sum-le f g [] h = omega arith
  sum-le f g (x ∷ xs) h = let a = h x (inl refl) in let b = sum-le f g xs (λ y m. h y (inr m)) in omega arith

  -- a part of the list has no more
  pub sum-keep-le : (p : A → Bool) (f : A → ℕ) (xs : List A) → sum_of f (keep p xs) ≤ sum_of f xs
  sum-keep-le p f xs =
      let a = sum-keep p f xs in
      let b = sum-le (λ (x : A). cond (p x) (f x) 0) f xs (λ x m. part (f x) (p x)) in
      omega arith
    where
      part : (n : ℕ) (t : Bool) → cond t n 0 ≤ n
      part n true = omega arith
      part n false = omega arith

  pub sum_plus : (f g : A → ℕ) (xs : List A) → sum_of f xs + sum_of g xs ≡ sum_of (λ (x : A). f x + g x) xs
  unfolding sum_of
  sum_plus f g [] = refl
  sum_plus f g (x ∷ xs) = let b = sum_plus f g xs in omega arith

  pub sum_one : (f : A → ℕ) (xs : List A) (x : A) → xs ≡ x ∷ [] → sum_of f xs ≡ f x
  unfolding sum_of
  sum_one f xs x e = rw (e, add-zero)

  -- where one is kept
  pub sum-kept_one : (p : A → Bool) (f : A → ℕ) (xs : List A) (x : A) → keep p xs ≡ x ∷ [] → sum_of (λ (y : A). cond (p y) (f y) 0) xs ≡ f x
  sum-kept_one p f xs x e = sym (sum-keep p f xs) ∙ sum_one f (keep p xs) x e
