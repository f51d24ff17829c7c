use mathlib.Core.Path.{◌≡◌}
use Prim.Native.Nat.{◌+◌, ◌-◌, ◌≤◌}
use Rattle.page.specs.Unread.{unread_from}
use Rattle.page.proofs.walk.unread_of.Given as goal

abbrev pub invariant-loop-i : goal.invariant-loop-i
invariant-loop-i l = (l.i ≤ 126) × (l.unread ≤ l.i) × (l.unread + unread_from l.s 126 l.i ≡ unread_from l.s 126 0)

abbrev pub decreases-loop-i : goal.decreases-loop-i
decreases-loop-i l = 126 - l.i
