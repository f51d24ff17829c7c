use lib.ListN.{take}
use Rattle.text.specs.Grown.{Grown}
use Rattle.text.proofs.Text.text.Given as goal

abbrev pub invariant-loop-b : goal.invariant-loop-b
invariant-loop-b l = Grown l.initial.self (take l.b-index l.text) l.self
