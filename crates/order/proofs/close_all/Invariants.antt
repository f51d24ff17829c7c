use Rattle.std.proofs.Common.{◌≡◌, ◌++◌, take, drop, map}
use Rattle.order.specs.Turns.{closed_page}
use Rattle.order.proofs.close_all.Given as goal

abbrev pub invariant-loop-i : goal.invariant-loop-i
invariant-loop-i l =
    (l.table.pages ≡ map closed_page (take l.i l.initial.table.pages) ++ drop l.i l.initial.table.pages) × (l.table.count ≡ l.initial.table.count) × (l.table.free ≡ l.initial.table.free) × (l.table.free_count ≡ l.initial.table.free_count)
