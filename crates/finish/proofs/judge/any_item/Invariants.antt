use mathlib.Core.Path.{◌≡◌}
use mathlib.Core.Bool.{Bool}
use mathlib.Core.List.{List}
use Prim.Native.Nat.{ℕ, ◌-◌, ◌≤◌}
use lib.ListN.{length}
use Rattle.page.specs.Walk.{walk}
use Rattle.finish.specs.Alike.{some_item}
use Rattle.finish.proofs.judge.any_item.Given as goal

abbrev pub invariant-loop-i : goal.invariant-loop-i
invariant-loop-i g l = (l.i ≤ 126) × ((p : List ℕ → Bool) → ((h : _) (b : Bool) → length h.now ≡ 32 → goal.F-post g l.test h b → b ≡ p h.now) → some_item p (walk l.s 126 l.i) ≡ some_item p (walk l.s 126 0))

abbrev pub decreases-loop-i : goal.decreases-loop-i
decreases-loop-i g l = 126 - l.i
