use Rattle.std.proofs.Common.{◌≡◌}
use Rattle.records.specs.Scanned.{scanned_of}
use Rattle.records.proofs.seeing.see_all.Given as goal

abbrev pub invariant-loop-n : goal.invariant-loop-n
invariant-loop-n l = l.seen ≡ (scanned_of l.image l.n).seen
