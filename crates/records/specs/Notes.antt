-- Bridge: what a walk counted of the sectors of an image: a note for each sector number, one more than the count, and 0 where nothing is noted. Assumes nothing.
use Rattle.std.specs.Prelude.{◌≡◌, List, ℕ, ◌+◌, ◌≤◌, length, get_or}
use Rattle.flash.specs.Step.{sector}
use Rattle.page.specs.Unread.{unread_from}

-- what is noted is right
pub record Noted (notes l : List ℕ) : Type 0 where
  pub room : 16 ≤ length notes
  pub right : (u : ℕ) → 1 ≤ get_or notes u 0 → get_or notes u 0 ≡ unread_from (sector u l) 126 0 + 1

-- nothing is noted, which is right of any image
pub record NoneNoted (notes : List ℕ) : Type 0 where
  pub room : 16 ≤ length notes
  pub none : (u : ℕ) → get_or notes u 0 ≡ 0
