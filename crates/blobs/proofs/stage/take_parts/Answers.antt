-- `blobs::take_parts` meets its contract: "the older-of-two after all others". Assumes nothing.
use mathlib.Core.Path.{refl}
use Rattle.flash.proofs.Laws.{goes_start, goes_on, goes_out, goes_last}
use Rattle.found.proofs.Alike.{alike_trans, each-alike, items_alike}
use Rattle.blobs.proofs.stage.take_parts.Goals as goal

pub returns-in_err-left : goal.returns-in_err-left
returns-in_err-left c =
    let first = c.judge_all.ensures in
    (goes_out _ (goes_start _ _ _) refl first.0 c.in_err-left.was c.from_residual.ensures.0, first.1)

pub drop_all_older-requires : goal.drop_all_older-requires
drop_all_older-requires c =
    let pre = c.requires in
    record { few = pre.few; each = each-alike _ _ c.judge_all.ensures.1 _ pre.each }

pub returns : goal.returns
returns c =
    let first = c.judge_all.ensures in
    let items = items_alike _ _ first.1 c.args.places.now c.requires.each in
    let second = c.drop_all_older.ensures in
    (goes_last (goes_on (goes_start _ _ _) refl first.0 c.in_ok-left.was) (rw items at second.0), alike_trans first.1 second.1)
