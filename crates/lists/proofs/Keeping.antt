-- Those that pass a test, of those that pass a weaker one; and what is made of them. Assumes nothing.
use mathlib.Core.Path.{◌≡◌, refl, ap, ap₂}
use mathlib.Core.Logic.{inl, inr}
use mathlib.Core.Bool.{Bool, true, false, cond}
use mathlib.Core.List.{List, [], ◌∷◌, ◌++◌, map, flat_map}
use Prim.Native.Nat.{ℕ, ◌+◌}
use native.Mathlib.Omega.{arith}
use Rattle.lists.specs.Lists.{keep, sum_of}
use Rattle.lists.proofs.Member.{◌∈◌, true≢false}

module _ {A : Type 0} where
  -- those that pass a test pass a weaker one
  pub keep-within : (p q : A → Bool) (xs : List A) → ((y : A) → y ∈ xs → p y ≡ true → q y ≡ true) → keep p (keep q xs) ≡ keep p xs
  unfolding keep
  keep-within p q [] h = refl
  keep-within p q (x ∷ xs) h = go (q x) refl (p x) refl (keep-within p q xs (λ y m. h y (inr m)))
    where
      go : (b : Bool) → q x ≡ b → (a : Bool) → p x ≡ a → keep p (keep q xs) ≡ keep p xs → keep p (cond b (x ∷ keep q xs) (keep q xs)) ≡ cond (p x) (x ∷ keep p xs) (keep p xs)
      go true e a f ih = ap (λ (r : List A). cond (p x) (x ∷ r) r) ih
      go false e true f ih = absurd (true≢false (h x (inl refl) f) e)
      go false e false f ih = rw f ih

  pub keep_same : (p q : A → Bool) (xs : List A) → ((y : A) → y ∈ xs → p y ≡ q y) → keep p xs ≡ keep q xs
  unfolding keep
  keep_same p q [] h = refl
  keep_same p q (x ∷ xs) h = ap₂ (λ (b : Bool) (r : List A). cond b (x ∷ r) r) (h x (inl refl)) (keep_same p q xs (λ y m. h y (inr m)))

  pub sum-within : (f : A → ℕ) (q : A → Bool) (xs : List A) → ((y : A) → y ∈ xs → q y ≡ false → f y ≡ 0) → sum_of f (keep q xs) ≡ sum_of f xs
  unfolding keep sum_of
  sum-within f q [] h = refl
  sum-within f q (x ∷ xs) h = go (q x) refl (sum-within f q xs (λ y m. h y (inr m)))
    where
      go : (b : Bool) → q x ≡ b → sum_of f (keep q xs) ≡ sum_of f xs → sum_of f (cond b (x ∷ keep q xs) (keep q xs)) ≡ f x + sum_of f xs
      go true e ih = ap (λ (n : ℕ). f x + n) ih
      go false e ih = let z = h x (inl refl) e in omega arith

  -- places that pass by what stands there
  pub map-keep : {B : Type 0} (g : A → B) (p : B → Bool) (xs : List A) → map g (keep (λ (x : A). p (g x)) xs) ≡ keep p (map g xs)
  unfolding keep
  map-keep g p [] = refl
  map-keep {B} g p (x ∷ xs) = go (p (g x)) (map-keep g p xs)
    where
      go : (b : Bool) → map g (keep (λ (x : A). p (g x)) xs) ≡ keep p (map g xs) → map g (cond b (x ∷ keep (λ (x : A). p (g x)) xs) (keep (λ (x : A). p (g x)) xs)) ≡ cond b (g x ∷ keep p (map g xs)) (keep p (map g xs))
      go true q = ap {B = List B} (λ (r : List B). g x ∷ r) q
      go false q = q

pub flat_map-map : {A B C : Type 0} (f : B → List C) (g : A → B) (xs : List A) → flat_map f (map g xs) ≡ flat_map (λ (x : A). f (g x)) xs
unfolding flat_map
flat_map-map f g [] = refl
flat_map-map {C = C} f g (x ∷ xs) = ap (λ (r : List C). f (g x) ++ r) (flat_map-map f g xs)
