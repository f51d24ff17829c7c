-- `lines::put_counts` meets its contract: a field behind a field. Assumes nothing.
use Rattle.text.proofs.Putting.{grown_both}
use Rattle.lines.specs.Lines.{counts}
use Rattle.lines.proofs.put_counts.Goals as goal

pub returns : goal.returns
unfolding counts
returns c =
    rw (c.from.ensures, c.from-2.ensures, c.from-3.ensures, c.from-4.ensures) at
    (grown_both c.field.ensures (grown_both c.field-2.ensures (grown_both c.field-3.ensures c.field-4.ensures)))
