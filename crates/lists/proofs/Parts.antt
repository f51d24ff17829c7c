-- Fronts and ends of a list, of one another and of what is made of each member. Assumes nothing.
use mathlib.Core.Path.{◌≡◌, refl, sym, ap, ◌∙◌}
use mathlib.Core.List.{List, [], ◌∷◌, map}
use Prim.Native.Nat.{ℕ, zero, suc, ◌-◌}
use native.Mathlib.Omega.{arith}
use lib.ListN.{take, drop}
use lib.Seq.{take-nil}

module _ {A : Type 0} where
  pub drop-take : (n m : ℕ) (l : List A) → drop n (take m l) ≡ take (m - n) (drop n l)
  drop-take zero m l = (let q : m ≡ m - 0 = omega arith in ap (λ (k : ℕ). take k l) q)
  drop-take (suc n) zero l = (let q : 0 ≡ 0 - suc n = omega arith in ap (λ (k : ℕ). take k (drop (suc n) l)) q)
  drop-take (suc n) (suc m) [] = sym (take-nil (suc m - suc n))
  drop-take (suc n) (suc m) (x ∷ l) = drop-take n m l ∙ (let q : m - n ≡ suc m - suc n = omega arith in ap (λ (k : ℕ). take k (drop n l)) q)

module _ {A B : Type 0} (f : A → B) where
  pub take-map : (k : ℕ) (xs : List A) → take k (map f xs) ≡ map f (take k xs)
  take-map zero xs = refl
  take-map (suc k) [] = refl
  take-map (suc k) (x ∷ xs) = ap {B = List B} (λ (r : List B). f x ∷ r) (take-map k xs)

  pub drop-map : (k : ℕ) (xs : List A) → drop k (map f xs) ≡ map f (drop k xs)
  drop-map zero xs = refl
  drop-map (suc k) [] = refl
  drop-map (suc k) (x ∷ xs) = drop-map k xs
