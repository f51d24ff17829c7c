use mathlib.Core.Path.{◌≡◌}
use Rattle.flash.proofs.Bytes.{puts}
use Rattle.flash.proofs.program_word.Given as goal

abbrev pub invariant-loop-k : goal.invariant-loop-k
invariant-loop-k l = l.image ≡ puts l.initial.image l.at l.word l.k
