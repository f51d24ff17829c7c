use mathlib.Core.Path.{◌≡◌}
use Prim.Native.Nat.{◌-◌, ◌<◌}
use Rattle.found.specs.Ranks.{rank_number}
use Rattle.slots.specs.Slots.{stop, stop_of}
use Rattle.slots.proofs.stop_of.Given as goal

abbrev pub invariant-loop : goal.invariant-loop
invariant-loop l = (l.i < 4096) × (stop l.slots l.image (rank_number l.name) (64 - l.counter) l.i ≡ stop_of l.slots l.image (rank_number l.name))
