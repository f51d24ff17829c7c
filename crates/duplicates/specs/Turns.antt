-- Bridge: what the code of stage 4 erases, item by item, so that no item is erased twice. Assumes nothing.
use Rattle.std.specs.Prelude.{Bool, cond, not, ◌&&◌, ℕ, ◌-◌, eqb, length, get_or}
use Rattle.std.proofs.Math.Option.{Option, none, some}
use mathlib.Core.List.{List, [], ◌∷◌, ◌++◌, get_last?, drop_last}
use Rattle.flash.specs.Step.{Step}
use Rattle.lists.specs.Lists.{some_of, sort_by}
use Rattle.found.specs.Found.{Found, is_index, start_in, version_of, chunks, erase_all}
use Rattle.duplicates.specs.Duplicates.{members, older_than}

-- a blob index of the given start
abbrev pub index_from : ℕ → List ℕ → Bool
index_from start r = is_index r && eqb (start_in r) start

-- whether the old item x takes its chunks with it: "A blob index takes its version's chunks with it, unless the kept item is an index of the same
-- start", and none of the old ones before it took them
unfoldable pub takes_chunks : List Found → Found → Found → Bool
takes_chunks before k x =
    is_index x.raw && not (index_from (start_in x.raw) k.raw) && not (some_of (λ (y : Found). index_from (start_in x.raw) y.raw) before)

-- what goes with one old item, and with those of a list, one after the other
unfoldable pub old_one : List Found → Found → List Found → Found → List Found
old_one fs k before x = x ∷ cond (takes_chunks before k x) (chunks (version_of x.raw) fs) []

unfoldable pub old_once : List Found → Found → List Found → List Found → List Found
old_once fs k before [] = []
old_once fs k before (x ∷ xs) = old_one fs k before x ++ old_once fs k (before ++ (x ∷ [])) xs

-- what goes of a group, oldest first, of which the last is kept
unfoldable pub old_with : List Found → List Found → Option Found → List Found
old_with fs s none = []
old_with fs s (some k) = old_once fs k [] (drop_last s)

unfoldable pub old_of : List Found → List Found → List Found
old_of fs s = old_with fs s (get_last? s)

unfoldable pub group_steps : List Found → ℕ → List Step
group_steps fs g = erase_all (old_of fs (sort_by older_than (members g fs)))

-- the last of the places
abbrev pub last_at : List ℕ → ℕ
last_at ps = get_or ps (length ps - 1) 0
