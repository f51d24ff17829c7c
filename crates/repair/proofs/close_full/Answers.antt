-- `repair::close_full` meets its contract: all its steps are of stage 4. Assumes nothing.
use Rattle.answer.specs.declared.Stage.TheVariants.{Duplicates}
use Rattle.answer.proofs.Made.{made_tag}
use Rattle.repair.proofs.close_full.Goals as goal

pub returns : goal.returns
returns c = rw c.in_stage.ensures (made_tag Duplicates c.make_last_marks.ensures)
