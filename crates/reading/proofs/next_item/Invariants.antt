use mathlib.Core.Path.{◌≡◌}
use Prim.Native.Nat.{◌+◌, ◌≤◌}
use Rattle.page.specs.Walk.{walk}
use Rattle.page.specs.Unread.{passed_from}
use Rattle.reading.proofs.next_item.Given as goal

abbrev pub invariant-loop-i : goal.invariant-loop-i
invariant-loop-i l = (walk l.s 126 l.i ≡ walk l.s 126 l.from) × (l.passed + passed_from l.s 126 l.i ≡ passed_from l.s 126 l.from) × (l.passed ≤ l.i)
