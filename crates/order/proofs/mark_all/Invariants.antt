use Rattle.std.proofs.Common.{◌≡◌, length, drop}
use Rattle.flash.specs.Did.{Goes}
use Rattle.table.specs.Table.{listed}
use Rattle.order.specs.Turns.{full_marks}
use Rattle.order.proofs.mark_all.Given as goal

abbrev pub invariant-loop-p : goal.invariant-loop-p
invariant-loop-p l = (length l.image ≡ length l.initial.image) × Goes (full_marks (listed l.table)) l.allowance l.initial.image (full_marks (drop l.p-index (listed l.table))) l.left l.image
