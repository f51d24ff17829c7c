-- Bridge: what the code of stage 3 answers while it judges, item by item. Assumes nothing.
use Rattle.std.specs.Prelude.{Bool, cond, ◌||◌, List, ℕ, ◌≤◌, length, Option, Some, None}
use Rattle.std.proofs.Math.Option.{Option as Chosen, none, some}
use Rattle.lists.specs.Lists.{keep, better, best}
use Rattle.found.specs.Found.{Found, newer, index_of}
use Rattle.found.specs.Places.{item_at, Placed, most_items}
use Rattle.lists.specs.Each.{Each}

-- the places that a stage works on
pub record Gathered (l places : List ℕ) : Type 0 where
  pub few : length places ≤ most_items
  pub each : Each (Placed l) places

-- the index that an answer names
abbrev pub newest_of : List ℕ → Option ℕ → Chosen Found
newest_of l None = none
newest_of l (Some p) = some (item_at l p)

abbrev pub PlacedAt : List ℕ → Option ℕ → Type 0
PlacedAt l None = Unit {0}
PlacedAt l (Some p) = Placed l p

-- an index of one of two versions
abbrev pub index_of_either : ℕ → ℕ → List ℕ → Bool
index_of_either v w r = index_of v r || index_of w r

-- the newest of them; and with one item more, in front
unfoldable pub newest_index : ℕ → ℕ → List Found → Chosen Found
newest_index v w fs = best newer (keep (λ (x : Found). index_of_either v w x.raw) fs)

unfoldable pub newest_with : ℕ → ℕ → Found → Chosen Found → Chosen Found
newest_with v w x o = cond (index_of_either v w x.raw) (some (better newer x o)) o
