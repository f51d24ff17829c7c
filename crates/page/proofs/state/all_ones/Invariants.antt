use mathlib.Core.Path.{◌≡◌}
use Prim.Native.Nat.{◌*◌}
use lib.ListN.{drop}
use Rattle.page.specs.State.{all_ones}
use Rattle.page.proofs.state.all_ones.Given as goal

abbrev pub invariant-loop-p : goal.invariant-loop-p
invariant-loop-p l = all_ones (drop (l.p * 32) l.s) ≡ all_ones l.s
