-- `lines::put_head` meets its contract: each part goes behind the last. Assumes nothing.
use Rattle.text.proofs.Putting.{grown_both}
use Rattle.lines.specs.Lines.{head}
use Rattle.lines.proofs.put_head.Goals as goal

pub returns : goal.returns
unfolding head
returns c =
    rw (c.from.ensures, c.number-2.ensures, c.steps.ensures) at (grown_both c.text.ensures (grown_both c.number.ensures (grown_both c.field.ensures (grown_both c.field-2.ensures c.push.ensures))))
