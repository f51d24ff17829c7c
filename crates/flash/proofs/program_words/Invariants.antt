use Prim.Native.Nat.{◌-◌}
use Rattle.flash.specs.Words.{words}
use Rattle.flash.specs.Did.{Goes}
use Rattle.flash.proofs.program_words.Given as goal

abbrev pub invariant-loop-k : goal.invariant-loop-k
invariant-loop-k l = Goes (words l.at l.e l.from (l.to - l.from)) l.allowed l.initial.part (words l.at l.e l.k (l.to - l.k)) l.left l.part
