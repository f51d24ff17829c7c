use Rattle.crc.specs.Crc.{crc_from}
use mathlib.Core.Path.{◌≡◌}
use Prim.Native.Nat.{◌*◌}
use lib.ListN.{take, drop}
use Rattle.crc.proofs.first_words.Given as goal

abbrev pub invariant-loop-k : goal.invariant-loop-k
invariant-loop-k l = crc_from l.r (drop (4 * l.k) (take (4 * l.n) l.s)) ≡ crc_from l.from (take (4 * l.n) l.s)
