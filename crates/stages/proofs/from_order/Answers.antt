-- `stages::from_order` meets its contract: stage 1, and the next two on what it left. Assumes nothing.
use Rattle.answer.proofs.Made.{stage_on, went_out}
use Rattle.answer.specs.declared.Stage.TheVariants.{Order}
use Rattle.table.specs.Table.{pages}
use Rattle.stages.proofs.Sequence.{order_stop, order_on_lem}
use Rattle.stages.proofs.Listed.{held_placed, stage_1}
use Rattle.repair.proofs.Counting.{stop-counted}
use Rattle.stages.proofs.from_order.Goals as goal

pub order_pages-requires : goal.order_pages-requires
order_pages-requires c = held_placed c.args.image.now c.requires.1 c.requires.0

pub returns-in_err-left : goal.returns-in_err-left
returns-in_err-left c =
    let out = c.from_residual.ensures.1 in
    (order_stop (pages c.args.image.now) (rw c.requires.0.list at c.order_pages.ensures.0) c.in_stage.ensures c.in_err-left.was out, stop-counted _ (went_out out))

pub last_stages-requires : goal.last_stages-requires
last_stages-requires c =
    let ran = stage_on Order c.in_stage.ensures c.in_ok-left.was in
    let left = stage_1 c.args.image.now c.requires.1 c.requires.0 c.order_pages.ensures.0 ran c.order_pages.ensures.1 in
    (left.placed, left.lies, c.requires.2)

pub returns : goal.returns
returns c =
    let ran = stage_on Order c.in_stage.ensures c.in_ok-left.was in
    let left = stage_1 c.args.image.now c.requires.1 c.requires.0 c.order_pages.ensures.0 ran c.order_pages.ensures.1 in
    let after = c.last_stages.ensures in
    (order_on_lem (pages c.args.image.now) (rw c.requires.0.list at c.order_pages.ensures.0) c.in_stage.ensures c.in_ok-left.was (rw left.list at after.0), after.1)
