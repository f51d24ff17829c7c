use mathlib.Core.Path.{◌≡◌}
use mathlib.Core.Bool.{Bool, true, ◌||◌}
use mathlib.Core.List.{List}
use Prim.Native.Nat.{ℕ}
use lib.Dec.{eqb}
use lib.ListN.{get_or}
use Rattle.lists.specs.Lists.{all_to}
use Rattle.slots.specs.Slots.{raw_at}
use Rattle.fits.specs.Fits.{part_fits}
use Rattle.fits.proofs.all_fit.Given as goal

-- the test of a slot
abbrev pub slot_fits : List ℕ → List ℕ → ℕ → Bool
slot_fits t l i = eqb (get_or t i 0) 0 || part_fits t l (raw_at l (get_or t i 0))

abbrev pub invariant-loop-slot : goal.invariant-loop-slot
invariant-loop-slot l = all_to (slot_fits l.slots l.image) l.slot-index ≡ true
