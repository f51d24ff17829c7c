-- Bridge: what the stages leave noted of the image m where they come to their end. Assumes nothing.
use Rattle.std.specs.Prelude.{◌≡◌, List, ℕ, Ok}
use Rattle.answer.specs.Went.{Went}
use Rattle.records.specs.Notes.{Noted}

abbrev pub Counted : List ℕ → List ℕ → Went → Type 0
Counted notes m r = (k : ℕ) → r ≡ Ok k → Noted notes m
