-- `stages::make_stages` meets its contract: stage 1, and then stage 2 if a page counts as Freeing. Assumes nothing.
use mathlib.Core.Path.{sym, ap, ◌∙◌}
use Rattle.answer.proofs.Made.{stage_on, went_out}
use Rattle.answer.specs.declared.Stage.TheVariants.{Order}
use Rattle.finishing.specs.Finishing.{freeings}
use Rattle.stages.proofs.Sequence.{all_stop, none_on, some_on}
use Rattle.stages.proofs.Listed.{held_placed, stage_1, sequences_left}
use Rattle.repair.proofs.Counting.{stop-counted}
use Rattle.stages.proofs.make_stages.Goals as goal

pub order_pages-requires : goal.order_pages-requires
order_pages-requires c = held_placed c.args.image.now c.requires.2 c.requires.0

pub returns-in_err-left : goal.returns-in_err-left
returns-in_err-left c =
    let out = c.from_residual.ensures.1 in
    (all_stop (rw c.requires.0.list at c.order_pages.ensures.0) c.in_stage.ensures c.in_err-left.was out, stop-counted _ (went_out out))

pub last_stages-requires : goal.last_stages-requires
last_stages-requires c =
    let ran = stage_on Order c.in_stage.ensures c.in_ok-left.was in
    let left = stage_1 c.args.image.now c.requires.2 c.requires.0 c.order_pages.ensures.0 ran c.order_pages.ensures.1 in
    (left.placed, left.lies, c.requires.4)

pub returns-then-count-eq0 : goal.returns-then-count-eq0
returns-then-count-eq0 c =
    let ran = stage_on Order c.in_stage.ensures c.in_ok-left.was in
    let left = stage_1 c.args.image.now c.requires.2 c.requires.0 c.order_pages.ensures.0 ran c.order_pages.ensures.1 in
    let none_left = ap freeings (sym left.list) ∙ sym c.count_freeing-count.ensures.0 ∙ c.if-count-eq0.true in
    let after = c.last_stages.ensures in
    (none_on (rw c.requires.0.list at c.order_pages.ensures.0) c.in_stage.ensures c.in_ok-left.was none_left (rw left.list at after.0), after.1)

pub from_finish-requires : goal.from_finish-requires
from_finish-requires c =
    let l = c.args.image.now in
    let ran = stage_on Order c.in_stage.ensures c.in_ok-left.was in
    let left = stage_1 l c.requires.2 c.requires.0 c.order_pages.ensures.0 ran c.order_pages.ensures.1 in
    let n = c.count_freeing-count.ensures in
    let sequences = rw (← left.list) at (sequences_left l c.requires.2 c.requires.3 _ (n.0 ∙ ap freeings left.list) c.if-count-eq0.false n.1) in
    (left.placed, n.0, sequences, left.whole c.requires.1, left.few, c.requires.4)

pub returns : goal.returns
returns c =
    let ran = stage_on Order c.in_stage.ensures c.in_ok-left.was in
    let left = stage_1 c.args.image.now c.requires.2 c.requires.0 c.order_pages.ensures.0 ran c.order_pages.ensures.1 in
    let count = c.count_freeing-count.ensures.0 ∙ ap freeings left.list in
    let after = c.from_finish.ensures in
    (some_on (rw c.requires.0.list at c.order_pages.ensures.0) c.in_stage.ensures c.in_ok-left.was (λ e. c.if-count-eq0.false (count ∙ e)) (rw (left.list, left.free) at after.0), after.1)
