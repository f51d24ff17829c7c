-- Rule. Demand 3, its general form, for a store in which recovery has work to do: "No Active or Freeing page, a free sector, a page below 126, sequences
-- distinct and below 0xFFFFFFF0, no shared (namespace, key, chunk index), no blob part in namespace 0, no two items but chunks sharing a namespace above 0
-- and a key, indices of unsound versions of span 1. Reclaim cut anywhere, then recovery cut any number of times and at last run to its end: exactly the items
-- that recovery leaves of the uncut store." Demand 3, where recovery leaves all, is its corollary. Assumes nothing.
use Rattle.std.specs.Prelude.{◌≡◌, true, not, ◌&&◌, ◌||◌, List, ℕ, ◌≤◌, eqb, length}
use Rattle.entry.specs.States.{one}
use Rattle.entry.specs.Fields.{span_of}
use Rattle.lists.specs.Lists.{every}
use Rattle.table.specs.Table.{pages, frees}
use Rattle.found.specs.Found.{Found, found, is_index, version_of, group_of}
use Rattle.versions.specs.Versions.{sound}
use Rattle.duplicates.specs.Duplicates.{ranked}
use Rattle.stages.specs.Stages.{accepted}
use Rattle.reclaim.specs.Reclaim.{reclaiming}
use Rattle.power.specs.Demand3.{Premises, total, held, recovered}
use Rattle.power.specs.Cuts.{Cut, Begun}

pub record Unsettled (l : List ℕ) : Type 0 where
  pub premises : Premises l
  -- "no two items but chunks sharing a namespace above 0 and a key"
  pub alone : (g : ℕ) → total (λ (r : List ℕ). one (ranked r && eqb (group_of r) g)) l ≤ 1
  -- "indices of unsound versions of span 1": soundness by stage 3's own test
  pub one_entry : every (λ (x : Found). not (is_index x.raw) || (sound (version_of x.raw) (found (pages l) l) x || eqb (span_of x.raw) 1)) (found (pages l) l) ≡ true

-- l is the store at the start, and m what stands when recovery is begun: for the last time, or to be cut again
pub record Leaves (l m : List ℕ) : Type 0 where
  -- recovery is not refused
  pub accepts : accepted m ≡ true
  -- "exactly the items that recovery leaves of the uncut store"
  pub items : (x : List ℕ) → held x (recovered m) ≡ held x (recovered l)
  -- each once
  pub once : (x : List ℕ) → held x (recovered m) ≤ 1
  -- no fewer free sectors
  pub free : length (frees l) ≤ length (frees (recovered m))

-- "Reclaim cut anywhere, then recovery cut any number of times"
abbrev pub General : Type 0
General = (l : List ℕ) → Unsettled l → (x m : List ℕ) → Cut (reclaiming l) l x → (n : ℕ) → Begun n x m → Leaves l m
