-- Bridge: where the pages of a list and the free sectors stand: each sector of the image once at most, and no other. Assumes nothing.
use Rattle.std.specs.Prelude.{List, ℕ, ◌+◌, ◌≤◌, eqb, ltb, length}
use Rattle.entry.specs.States.{one}
use Rattle.lists.specs.Lists.{sum_of}
use Rattle.table.specs.declared.Page.{Page}
use Rattle.table.specs.Table.{in_sector}

-- how often sector u stands in the two lists
unfoldable pub times_in : ℕ → List Page → List ℕ → ℕ
times_in u ps fs = sum_of (λ (p : Page). one (in_sector u p)) ps + sum_of (λ (s : ℕ). one (eqb s u)) fs

-- of an image of n sectors, which are 16 at most
pub record PagesPlaced (n : ℕ) (ps : List Page) (fs : List ℕ) : Type 0 where
  pub once : (u : ℕ) → times_in u ps fs ≤ one (ltb u n)
  pub sixteen : length ps + length fs ≤ 16
