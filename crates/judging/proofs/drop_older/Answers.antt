-- `judging::drop_older` meets its contract: where none goes there is no step. Assumes nothing.
use Rattle.flash.proofs.Laws.{did_none}
use Rattle.found.proofs.Alike.{alike_refl}
use Rattle.judging.proofs.drop_older.Goals as goal

pub returns-in-None : goal.returns-in-None
returns-in-None c = rw c.in-None.ensures (did_none _ _, alike_refl _)
