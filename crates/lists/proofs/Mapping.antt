-- Sorting places by what stands there sorts what stands there. Assumes nothing.
use mathlib.Core.Path.{◌≡◌, refl, ap, ◌∙◌}
use mathlib.Core.Bool.{Bool, true, false, cond}
use mathlib.Core.List.{List, [], ◌∷◌, map}
use Prim.Native.Nat.{ℕ}
use lib.Dec.{ltb}
use Rattle.lists.specs.Lists.{insert_by, sort_by}
use Rattle.lists.specs.Merge.{below}

module _ {A B : Type 0} (g : A → B) (f : B → ℕ) where
  abbrev at : A → ℕ
  at x = f (g x)

  map_insert : (x : A) (ys : List A) → map g (insert_by (below at) x ys) ≡ insert_by (below f) (g x) (map g ys)
  unfolding insert_by
  map_insert x [] = refl
  map_insert x (y ∷ ys) = go (ltb (at y) (at x)) (map_insert x ys)
    where
      go : (b : Bool) → map g (insert_by (below at) x ys) ≡ insert_by (below f) (g x) (map g ys)
          → map g (cond b (y ∷ insert_by (below at) x ys) (x ∷ (y ∷ ys))) ≡ cond b (g y ∷ insert_by (below f) (g x) (map g ys)) (g x ∷ (g y ∷ map g ys))
      go true q = ap {B = List B} (λ (r : List B). g y ∷ r) q
      go false q = refl

  pub map-sort : (xs : List A) → map g (sort_by (below at) xs) ≡ sort_by (below f) (map g xs)
  unfolding sort_by
  map-sort [] = refl
  map-sort (x ∷ xs) = map_insert x (sort_by (below at) xs) ∙ ap (insert_by (below f) (g x)) (map-sort xs)
