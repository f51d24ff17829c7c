use Rattle.std.proofs.Common.{◌≡◌}
use Rattle.records.specs.Records.{rows_of}
use Rattle.records.proofs.make_rows.Given as goal

abbrev pub invariant-loop-n : goal.invariant-loop-n
invariant-loop-n l = l.rows ≡ (rows_of l.image l.n).rows
