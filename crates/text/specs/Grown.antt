-- Bridge: what a function that puts text does to the text in hand. Assumes nothing.
use Rattle.std.specs.Prelude.{◌≡◌, List, ℕ}
use Rattle.text.specs.declared.Text.{Text}
use Rattle.text.specs.Text.{Put}

-- the text a became b by putting s behind it: in the same lent bytes
pub record Grown (a : Text) (s : List ℕ) (b : Text) : Type 0 where
  pub same_reference : b.out.ghost_name ≡ a.out.ghost_name
  pub put : Put a.out.now a.at s b.out.now b.at
