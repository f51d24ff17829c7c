use Prim.Native.Nat.{◌-◌}
use Rattle.flash.specs.Did.{Goes}
use Rattle.marking.specs.Marking.{unmarking}
use Rattle.marking.proofs.mark_erased.Given as goal

abbrev pub invariant-loop-e : goal.invariant-loop-e
invariant-loop-e l = Goes (unmarking l.base l.j l.n) l.allowed l.initial.image (unmarking l.base l.j (l.e - l.j)) l.left l.image
