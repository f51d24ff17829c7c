-- `Text::field` meets its contract: each part goes behind the last. Assumes nothing.
use Rattle.text.proofs.Putting.{grown_both}
use Rattle.text.proofs.Text.field.Goals as goal

pub returns : goal.returns
returns c = grown_both c.push.ensures (grown_both c.text.ensures (grown_both c.push-2.ensures c.number.ensures))
