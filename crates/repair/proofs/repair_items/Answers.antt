-- `repair::repair_items` meets its contract: all its steps are of stage 4. Assumes nothing.
use Rattle.answer.specs.declared.Stage.TheVariants.{Duplicates}
use Rattle.answer.proofs.Made.{made_tag}
use Rattle.repair.proofs.repair_items.Goals as goal

pub returns : goal.returns
returns c = rw c.in_stage.ensures (made_tag Duplicates c.duplicate_stage.ensures)
