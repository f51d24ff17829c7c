-- Bridge: a table t of 4,096 slots over the items of an image l: a slot holds an item's place, and 0 where it is free. Assumes nothing.
use Rattle.std.specs.Prelude.{Bool, cond, ◌||◌, List, ℕ, zero, suc, ◌+◌, ◌%◌, ◌≤◌, eqb, length, get_or, Option, Some, None}
use Rattle.found.specs.Places.{item_at, Placed}
use Rattle.slots.specs.Names.{name_of, slot_of}

-- the bytes of the item at place p
abbrev pub raw_at : List ℕ → ℕ → List ℕ
raw_at l p = (item_at l p).raw

-- what holds of each place that stands in a slot
abbrev pub EachSlot : (ℕ → Type 0) → List ℕ → Type 0
EachSlot P t = (i : ℕ) → 1 ≤ get_or t i 0 → P (get_or t i 0)

-- the table has its slots, and each leads to an item
pub record Leads (t l : List ℕ) : Type 0 where
  pub room : 4096 ≤ length t
  pub each : EachSlot (Placed l) t

-- the item at place p has the name k
abbrev pub hit : List ℕ → ℕ → ℕ → Bool
hit l k p = eqb (name_of (raw_at l p)) k

-- the slot at which the search for the name k ends, of n slots from slot i on around: the first that is free or has it; none where none is
unfoldable pub stop : List ℕ → List ℕ → ℕ → ℕ → ℕ → Option ℕ
stop t l k zero i = None
stop t l k (suc n) i = cond (eqb (get_or t i 0) 0 || hit l k (get_or t i 0)) (Some i) (stop t l k n ((i + 1) % 4096))

-- 64 slots are looked at, so that names that crowd one slot cost no more than a sort
unfoldable pub stop_of : List ℕ → List ℕ → ℕ → Option ℕ
stop_of t l k = stop t l k 64 (slot_of k)

-- the place that stands in the slot at which a search ended; 0 where the slot is free, or there is none
abbrev pub place_in : List ℕ → Option ℕ → ℕ
place_in t None = 0
place_in t (Some i) = get_or t i 0

-- the place to which the table leads from the name k; 0 where it leads to none
unfoldable pub told : List ℕ → List ℕ → ℕ → ℕ
told t l k = place_in t (stop_of t l k)
