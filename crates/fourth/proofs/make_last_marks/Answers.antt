-- `fourth::make_last_marks` meets its contract: the marks of the pages from here on are left, judged by the image as the call began. Assumes nothing.
use Rattle.std.proofs.Common.{◌∙◌, sym}
use Rattle.flash.proofs.Laws.{goes_start, goes_on, goes_out, goes_end, goes_same}
use Rattle.table.specs.Table.{listed}
use Rattle.table.proofs.Places.{in_list, page-fits}
use Rattle.duplicates.proofs.Marking.{marked_none, marked_more}
use Rattle.fourth.proofs.Marks.{marked_here, passed_here, marked_all}
use Rattle.fourth.proofs.make_last_marks.Goals as goal
use Rattle.fourth.proofs.make_last_marks.Goals.{then-is_used_up+in_ok-left, else-is_used_up}

pub loop-p-init : goal.loop-p-init
loop-p-init c = (marked_none _, goes_start _ _ _)

pub is_used_up-requires : goal.is_used_up-requires
is_used_up-requires c =
    let l = c.loop-p in
    let ps = listed c.args.table.now in
    page-fits c.args.image.now l.image c.requires l.invariant.0.size _ (in_list ps _ c.listed-p-items.ensures l.p-index _ c.loop-p-test.true)

pub mark_full-requires : goal.mark_full-requires
mark_full-requires c =
    let l = c.loop-p in
    let ps = listed c.args.table.now in
    rw c.from.ensures (page-fits c.args.image.now l.image c.requires l.invariant.0.size _ (in_list ps _ c.listed-p-items.ensures l.p-index _ c.loop-p-test.true))

pub returns-in_err-left : goal.returns-in_err-left
returns-in_err-left c =
    let l = c.loop-p in
    let here = marked_here c.listed-p-items.ensures l.invariant.0 l.p-index _ c.loop-p-test.true c.from.result c.from.ensures (sym c.is_used_up.ensures ∙ c.if-is_used_up.true) in
    goes_out _ l.invariant.1 here c.mark_full.ensures c.in_err-left.was c.from_residual.ensures.0

pub loop-p-preserved : goal.loop-p-preserved
loop-p-preserved c =
    let l = c.loop-p in
    let lent = c.listed-p-items.ensures in
    elim c.if-is_used_up.branch [
      | then-is_used_up+in_ok-left w ↦
          let here = marked_here lent l.invariant.0 l.p-index _ c.loop-p-test.true w.from.result w.from.ensures (sym c.is_used_up.ensures ∙ w.if-is_used_up.true) in
          rw (w.image-is, w.left-is) (marked_more _ w.mark_full.ensures l.invariant.0, goes_on l.invariant.1 here w.mark_full.ensures w.in_ok-left.was)
      | else-is_used_up w ↦
          let here = passed_here lent l.invariant.0 l.p-index _ c.loop-p-test.true (sym c.is_used_up.ensures ∙ w.if-is_used_up.false) in
          rw (w.image-is, w.left-is) (l.invariant.0, goes_same l.invariant.1 here)
    ]

pub returns : goal.returns
returns c = goes_end c.loop-p.invariant.1 (marked_all c.args.image.now (listed c.args.table.now) _ c.listed-p-items.ensures c.loop-p.p-index c.loop-p-test.false)
