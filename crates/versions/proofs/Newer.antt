-- The newest index is found item by item from the list's end. Assumes nothing.
use mathlib.Core.Path.{◌≡◌, refl, ap}
use mathlib.Core.Bool.{Bool, true, false, ◌||◌}
use mathlib.Core.List.{List, [], ◌∷◌}
use Prim.Native.Nat.{ℕ}
use Rattle.lists.specs.Lists.{keep, best}
use Rattle.found.specs.Found.{Found, newer, index_of}
use Rattle.versions.specs.Versions.{indices, counting}
use Rattle.versions.specs.Search.{index_of_either, newest_index, newest_with}

pub newest_more : (v w : ℕ) (x : Found) (xs : List Found) → newest_index v w (x ∷ xs) ≡ newest_with v w x (newest_index v w xs)
unfolding newest_index newest_with keep best
newest_more v w x xs = go (index_of_either v w x.raw) refl
  where
    go : (b : Bool) → index_of_either v w x.raw ≡ b → newest_index v w (x ∷ xs) ≡ newest_with v w x (newest_index v w xs)
    go true e = rw e
    go false e = rw e

-- of one version
same_test : (b : Bool) → (b || b) ≡ b
same_test true = refl
same_test false = refl

keep_one : (v : ℕ) (fs : List Found) → keep (λ (x : Found). index_of_either v v x.raw) fs ≡ indices v fs
unfolding keep
keep_one v [] = refl
keep_one v (x ∷ xs) = rw (same_test (index_of v x.raw), keep_one v xs)

pub newest-counts : (v : ℕ) (fs : List Found) → newest_index v v fs ≡ counting v fs
unfolding newest_index counting
newest-counts v fs = ap (best newer) (keep_one v fs)
