-- What is made of each member: sums, members and parts of `map` and `flat_map`. Assumes nothing.
use mathlib.Core.Path.{◌≡◌, refl, sym, ap, ap₂, ◌∙◌}
use mathlib.Core.Logic.{inl, inr, ⊎_elim}
use mathlib.Core.List.{List, [], ◌∷◌, ◌++◌, append_assoc, map, flat_map}
use Prim.Native.Nat.{ℕ, ◌+◌}
use Rattle.lists.specs.Lists.{sum_of}
use Rattle.lists.proofs.Member.{◌∈◌, nil_left, nil_right, in_left, in_right, in_append}
use Rattle.lists.proofs.Sums.{sum-append}

module _ {A B : Type 0} where
  -- a sum over what was made is a sum over what it was made of
  pub sum-flat_map : (f : B → ℕ) (g : A → List B) (xs : List A) → sum_of f (flat_map g xs) ≡ sum_of (λ (x : A). sum_of f (g x)) xs
  unfolding flat_map sum_of
  sum-flat_map f g [] = refl
  sum-flat_map f g (x ∷ xs) = sum-append f (g x) (flat_map g xs) ∙ ap (λ (n : ℕ). sum_of f (g x) + n) (sum-flat_map f g xs)

  pub sum-map : (f : B → ℕ) (g : A → B) (xs : List A) → sum_of f (map g xs) ≡ sum_of (λ (x : A). f (g x)) xs
  unfolding sum_of
  sum-map f g [] = refl
  sum-map f g (x ∷ xs) = ap (λ (n : ℕ). f (g x) + n) (sum-map f g xs)

  -- of lists put together
  pub flat_map-append : (g : A → List B) (a b : List A) → flat_map g (a ++ b) ≡ flat_map g a ++ flat_map g b
  unfolding flat_map
  flat_map-append g [] b = refl
  flat_map-append g (x ∷ a) b = ap (λ (r : List B). g x ++ r) (flat_map-append g a b) ∙ sym (append_assoc (g x) (flat_map g a) (flat_map g b))

  pub flat_map_ext : (g h : A → List B) (xs : List A) → ((y : A) → y ∈ xs → g y ≡ h y) → flat_map g xs ≡ flat_map h xs
  unfolding flat_map
  flat_map_ext g h [] e = refl
  flat_map_ext g h (x ∷ xs) e = ap₂ (λ (a b : List B). a ++ b) (e x (inl refl)) (flat_map_ext g h xs (λ y m. e y (inr m)))

  -- nothing is made where each makes nothing, and the other way
  pub flat_map_none : (g : A → List B) (xs : List A) → ((y : A) → y ∈ xs → g y ≡ []) → flat_map g xs ≡ []
  unfolding flat_map
  flat_map_none g [] h = refl
  flat_map_none g (x ∷ xs) h = rw (h x (inl refl)) (flat_map_none g xs (λ y m. h y (inr m)))

  pub flat_map-each : (g : A → List B) (xs : List A) → flat_map g xs ≡ [] → (y : A) → y ∈ xs → g y ≡ []
  unfolding flat_map
  flat_map-each g [] e y m = absurd m
  flat_map-each g (x ∷ xs) e y (inl r) = ap g r ∙ nil_left (g x) (flat_map g xs) e
  flat_map-each g (x ∷ xs) e y (inr m) = flat_map-each g xs (nil_right (g x) (flat_map g xs) e) y m

  -- the members of what was made
  pub in_map : (g : A → B) (xs : List A) (y : A) → y ∈ xs → g y ∈ map g xs
  in_map g [] y m = absurd m
  in_map g (x ∷ xs) y (inl r) = inl (ap g r)
  in_map g (x ∷ xs) y (inr m) = inr (in_map g xs y m)

  pub map_in : (g : A → B) (xs : List A) (z : B) → z ∈ map g xs → (y : A) × (y ∈ xs) × (z ≡ g y)
  map_in g [] z m = absurd m
  map_in g (x ∷ xs) z (inl r) = (x, inl refl, r)
  map_in g (x ∷ xs) z (inr m) = let r = map_in g xs z m in (r.0, inr r.1, r.2)

  pub in_flat_map : (g : A → List B) (xs : List A) (y : A) (z : B) → y ∈ xs → z ∈ g y → z ∈ flat_map g xs
  unfolding flat_map
  in_flat_map g [] y z m n = absurd m
  in_flat_map g (x ∷ xs) y z (inl r) n = in_left z (g x) (flat_map g xs) (rw (← r) n)
  in_flat_map g (x ∷ xs) y z (inr m) n = in_right z (g x) (flat_map g xs) (in_flat_map g xs y z m n)

  pub flat_map_in : (g : A → List B) (xs : List A) (z : B) → z ∈ flat_map g xs → (y : A) × (y ∈ xs) × (z ∈ g y)
  unfolding flat_map
  flat_map_in g [] z m = absurd m
  flat_map_in g (x ∷ xs) z m = ⊎_elim (λ n. (x, inl refl, n)) (λ n. let r = flat_map_in g xs z n in (r.0, inr r.1, r.2)) (in_append z (g x) (flat_map g xs) m)

pub map_ext : {A B : Type 0} (g h : A → B) (xs : List A) → ((y : A) → y ∈ xs → g y ≡ h y) → map g xs ≡ map h xs
map_ext g h [] e = refl
map_ext {A} {B} g h (x ∷ xs) e = ap₂ (λ (a : B) (r : List B). a ∷ r) (e x (inl refl)) (map_ext g h xs (λ y m. e y (inr m)))
