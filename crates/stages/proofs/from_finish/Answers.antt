-- `stages::from_finish` meets its contract: stage 2, and then the scan of what it left. Assumes nothing.
use Rattle.answer.proofs.Made.{went_out}
use Rattle.table.specs.Table.{listed, freed}
use Rattle.stages.proofs.Sequence.{finish-stop, finish_on_lem}
use Rattle.repair.proofs.Counting.{stop-counted}
use Rattle.stages.proofs.from_finish.Goals as goal

pub returns-in_err-left : goal.returns-in_err-left
returns-in_err-left c =
    let t = c.args.table in
    let out = c.from_residual.ensures.1 in
    (finish-stop (listed t) (freed t) c.requires.1 c.finish_all.ensures c.in_err-left.was out, stop-counted _ (went_out out))

pub returns : goal.returns
returns c =
    let t = c.args.table in
    let after = c.from_order.ensures in
    (finish_on_lem (listed t) (freed t) c.requires.1 c.finish_all.ensures c.in_ok-left.was after.0, after.1)
