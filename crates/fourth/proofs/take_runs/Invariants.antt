use mathlib.Core.List.{flat_map}
use Prim.Native.Nat.{◌-◌}
use lib.ListN.{take, drop}
use Rattle.flash.specs.Did.{Goes}
use Rattle.found.specs.Places.{items_at}
use Rattle.sort.specs.Rank.{group_by}
use Rattle.lists.specs.Runs.{runs}
use Rattle.duplicates.specs.Runs.{run_steps}
use Rattle.duplicates.proofs.Rest.{RunsLeft}
use Rattle.fourth.proofs.take_runs.Given as goal

abbrev pub invariant-loop-a : goal.invariant-loop-a
invariant-loop-a l =
    RunsLeft l.initial.image l.image l.initial.room l.room l.n l.a
    × Goes (flat_map run_steps (runs group_by (items_at l.initial.image (take l.n l.initial.room)))) l.allowed l.initial.image (flat_map run_steps (runs group_by (items_at l.initial.image (drop l.a (take l.n l.initial.room))))) l.left l.image

abbrev pub decreases-loop-a : goal.decreases-loop-a
decreases-loop-a l = l.n - l.a
