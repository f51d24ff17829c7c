use mathlib.Core.Path.{◌≡◌}
use mathlib.Core.List.{◌++◌}
use Prim.Native.Nat.{◌+◌, ◌-◌, ◌≤◌}
use lib.ListN.{length, take}
use Rattle.page.specs.Unread.{unread_from}
use Rattle.page.proofs.Placing.{places_from}
use Rattle.walking.proofs.places.Given as goal

abbrev pub invariant-loop-i : goal.invariant-loop-i
invariant-loop-i l = (length l.out ≡ length l.initial.out) × (l.i ≤ 126) × (l.end ≤ l.from + l.i) × (take l.end l.out ++ places_from l.s l.base l.i ≡ take l.from l.initial.out ++ places_from l.s l.base 0) × (l.unread ≤ l.i) × (l.unread + unread_from l.s 126 l.i ≡ unread_from l.s 126 0)

abbrev pub decreases-loop-i : goal.decreases-loop-i
decreases-loop-i l = 126 - l.i
