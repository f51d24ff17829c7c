-- Bridge: what holds of each member of a list. Assumes nothing.
use Rattle.std.specs.Prelude.{List, [], ◌∷◌}

unfoldable pub Each : {A : Type 0} → (A → Type 0) → List A → Type 0
Each P [] = Unit {0}
Each P (x ∷ xs) = P x × Each P xs
