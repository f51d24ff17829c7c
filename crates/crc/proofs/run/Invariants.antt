use Rattle.crc.specs.Crc.{crc_from}
use mathlib.Core.Path.{◌≡◌}
use lib.ListN.{drop}
use Rattle.crc.proofs.run.Given as goal

abbrev pub invariant-loop-b : goal.invariant-loop-b
invariant-loop-b l = crc_from l.r (drop l.b-index l.b-items) ≡ crc_from l.from l.s
