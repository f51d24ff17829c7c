use Prim.Native.Nat.{◌-◌}
use Rattle.flash.specs.Did.{Goes}
use Rattle.found.specs.Found.{erase_all}
use Rattle.found.specs.Places.{items_at, Alike}
use Rattle.duplicates.specs.Turns.{old_of}
use Rattle.duplicates.proofs.Taking.{left_from}
use Rattle.duplicates.proofs.old.erase_all_old.Given as goal

abbrev pub invariant-loop-i : goal.invariant-loop-i
invariant-loop-i l = Alike l.initial.image l.image × Goes (erase_all (old_of (items_at l.initial.image l.places) (items_at l.initial.image l.sorted))) l.allowed l.initial.image (left_from l.initial.image l.places l.sorted (l.i - 1)) l.left l.image
