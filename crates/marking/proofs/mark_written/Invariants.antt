use Prim.Native.Nat.{◌+◌, ◌-◌}
use Rattle.flash.specs.Did.{Goes}
use Rattle.marking.specs.Marking.{marking}
use Rattle.marking.proofs.mark_written.Given as goal

abbrev pub invariant-loop-e : goal.invariant-loop-e
invariant-loop-e l = Goes (marking l.base l.j l.n) l.allowed l.initial.image (marking l.base l.e (l.j + l.n - l.e)) l.left l.image
