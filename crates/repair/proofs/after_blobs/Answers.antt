-- `stages::after_blobs` meets its contract: where the quick test says yes, the last marks are the stage. Assumes nothing.
use Rattle.table.specs.Table.{listed}
use Rattle.repair.proofs.Repairing.{calm_last}
use Rattle.repair.proofs.Counting.{marks-counted, stage-counted}
use Rattle.repair.proofs.after_blobs.Goals as goal

pub returns-then-is_calm : goal.returns-then-is_calm
returns-then-is_calm c =
    let a = c.args in
    let tested = c.is_calm.ensures in
    let made = c.close_full.ensures in
    (rw (calm_last (listed a.table.now) a.image.now (tested.0 c.if-is_calm.true)) made, marks-counted (listed a.table.now) tested.2 made)

pub returns : goal.returns
returns c =
    let made = c.repair_items.ensures in
    (made, stage-counted (listed c.args.table.now) c.gather-n.ensures.2 c.requires.1 made)
