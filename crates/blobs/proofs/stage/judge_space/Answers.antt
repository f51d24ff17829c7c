-- `blobs::judge_space` meets its contract: start 0 comes before start 0x80. Assumes nothing.
use mathlib.Core.Path.{refl}
use lib.Dec.{lit<}
use Rattle.flash.proofs.Laws.{goes_start, goes_on, goes_out, goes_last}
use Rattle.found.proofs.Alike.{alike_trans, each-alike, items_alike}
use Rattle.blobs.specs.Runs.{space_steps}
use Rattle.blobs.proofs.stage.judge_space.Goals as goal

pub returns-in_err-left : goal.returns-in_err-left
unfolding space_steps
returns-in_err-left c =
    let first = c.judge_start.ensures in
    (goes_out _ (goes_start _ _ _) refl first.0 c.in_err-left.was c.from_residual.ensures.0, first.1)

pub judge_start-requires-2 : goal.judge_start-requires-2
judge_start-requires-2 c =
    let pre = c.requires in
    (record { few = pre.few; each = each-alike _ _ c.judge_start.ensures.1 _ pre.each }, lit< tt)

pub returns : goal.returns
unfolding space_steps
returns c =
    let first = c.judge_start.ensures in
    let items = items_alike _ _ first.1 c.args.places.now c.requires.each in
    let second = c.judge_start-2.ensures in
    (goes_last (goes_on (goes_start _ _ _) refl first.0 c.in_ok-left.was) (rw items at second.0), alike_trans first.1 second.1)
