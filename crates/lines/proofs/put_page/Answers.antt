-- `lines::put_page` meets its contract: the sequence, the counts behind it, and then the unread entries. Assumes nothing.
use Rattle.text.proofs.Putting.{grown_both}
use Rattle.lines.specs.Lines.{page_text}
use Rattle.lines.proofs.put_page.Goals as goal

pub returns : goal.returns
unfolding page_text
returns c =
    rw (c.from.ensures, c.from-2.ensures) at (grown_both c.push.ensures (grown_both c.number.ensures (grown_both c.put_counts.ensures c.field.ensures)))
