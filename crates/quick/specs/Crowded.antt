-- Bridge: the one reason for which the quick test says no of calm items: names that crowd one place. Assumes nothing.
use Rattle.std.specs.Prelude.{◌≡◌, true, List, ℕ, ◌+◌, ◌%◌, ◌<◌, ◌≤◌, eqb, get_or}
use Rattle.lists.specs.Lists.{some_of}
use Rattle.slots.specs.Names.{name_of, slot_of}
use Rattle.slots.specs.Slots.{raw_at, EachSlot}
use Rattle.slots.specs.Named.{Stands}

-- an item at one of the places ps is crowded out: in a table of items at these places, of which each stands where the search for its name ends, the 64 slots
-- from that of its name on, around, hold items of other names
pub record Crowded (t l ps : List ℕ) : Type 0 where
  pub place : ℕ
  pub here : some_of (eqb place) ps ≡ true
  pub only : EachSlot (λ (p : ℕ). some_of (eqb p) ps ≡ true) t
  pub stands : Stands t l
  pub full : (n : ℕ) → n < 64 → (1 ≤ get_or t ((slot_of (name_of (raw_at l place)) + n) % 4096) 0) × (name_of (raw_at l (get_or t ((slot_of (name_of (raw_at l place)) + n) % 4096) 0)) ≡ name_of (raw_at l place) → ⊥)
