-- No answer has a number above 7, and so none the number 8: document 02, No. 12: "The number 8 is not used again." Assumes nothing.
use mathlib.Core.Path.{◌≡◌}
use Prim.Native.Nat.{◌≤◌}
use native.Mathlib.Omega.{arith}
use Rattle.answer.specs.declared.Answer.{Answer}
use Rattle.answer.specs.declared.Answer.TheVariants.{Done, NotSectors, FewRecords, ActiveStands, AllWritten, NoFreeSector, SequencesSpent, Stopped}
use Rattle.answer.specs.Answer.{number_of}

pub number_most : (a : Answer) → number_of a ≤ 7
number_most (Done n) = omega arith
number_most NotSectors = omega arith
number_most FewRecords = omega arith
number_most ActiveStands = omega arith
number_most AllWritten = omega arith
number_most NoFreeSector = omega arith
number_most SequencesSpent = omega arith
number_most (Stopped s n) = omega arith

pub eight_unused : (a : Answer) → number_of a ≡ 8 → ⊥
eight_unused a e = omega (arith, number_most a, e)
