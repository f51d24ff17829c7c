-- Bridge: the runs of a list: neighbours of one number. Assumes nothing.
use Rattle.std.specs.Prelude.{cond, List, [], ◌∷◌, ℕ, eqb}

module _ {A : Type 0} (f : A → ℕ) where
  -- x in front of the runs of what follows it
  unfoldable pub run_with : A → List (List A) → List (List A)
  run_with x [] = (x ∷ []) ∷ []
  run_with x ([] ∷ rs) = (x ∷ []) ∷ rs
  run_with x ((y ∷ ys) ∷ rs) = cond (eqb (f x) (f y)) ((x ∷ (y ∷ ys)) ∷ rs) ((x ∷ []) ∷ ((y ∷ ys) ∷ rs))

  unfoldable pub runs : List A → List (List A)
  runs [] = []
  runs (x ∷ xs) = run_with x (runs xs)
