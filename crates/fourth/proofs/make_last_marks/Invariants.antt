use Rattle.std.proofs.Common.{drop}
use Rattle.flash.specs.Did.{Goes}
use Rattle.table.specs.Table.{listed}
use Rattle.duplicates.specs.Duplicates.{last_marks}
use Rattle.duplicates.proofs.Marking.{Marked}
use Rattle.fourth.proofs.make_last_marks.Given as goal

abbrev pub invariant-loop-p : goal.invariant-loop-p
invariant-loop-p l = Marked l.initial.image l.image × Goes (last_marks (listed l.table) l.initial.image) l.allowed l.initial.image (last_marks (drop l.p-index (listed l.table)) l.initial.image) l.left l.image
