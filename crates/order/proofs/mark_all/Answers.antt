-- `order::mark_all` meets its contract: the marks of the pages from here on, made on the image as it is, are the whole. Assumes nothing.
use Rattle.std.proofs.Common.{◌∙◌, sym, ap, refl}
use Rattle.flash.proofs.Laws.{goes_start, goes_on, goes_out, goes_end, goes_same}
use Rattle.table.specs.Table.{listed}
use Rattle.table.proofs.Listing.{element, listed_end}
use Rattle.table.proofs.Places.{in_list, page-fits}
use Rattle.lists.specs.Lists.{keep}
use Rattle.order.specs.Turns.{full_marks}
use Rattle.order.proofs.Turns.{marks-active, marks-other}
use Rattle.order.proofs.mark_all.Goals as goal
use Rattle.order.proofs.mark_all.Goals.{then-is_active+in_ok-left, else-is_active}

pub loop-p-init : goal.loop-p-init
loop-p-init c = (refl, goes_start _ _ _)

pub mark_full-requires : goal.mark_full-requires
mark_full-requires c =
    let ps = listed c.args.table.now in
    rw c.from.ensures (page-fits c.args.image.now c.loop-p.image c.requires c.loop-p.invariant.0 _ (in_list ps _ c.listed-p-items.ensures c.loop-p.p-index _ c.loop-p-test.true))

pub returns-in_err-left : goal.returns-in_err-left
returns-in_err-left c =
    let here = element (listed c.args.table.now) _ c.listed-p-items.ensures c.loop-p.p-index _ c.loop-p-test.true in
    goes_out _ c.loop-p.invariant.1 (ap full_marks here ∙ marks-active _ _ (sym c.is_active.ensures ∙ c.if-is_active.true))
    (rw c.from.ensures at c.mark_full.ensures) c.in_err-left.was c.from_residual.ensures.0

pub loop-p-preserved : goal.loop-p-preserved
loop-p-preserved c =
    let here = ap full_marks (element (listed c.args.table.now) _ c.listed-p-items.ensures c.loop-p.p-index _ c.loop-p-test.true) in
    elim c.if-is_active.branch [
      | then-is_active+in_ok-left w ↦ rw (w.image-is, w.left-is) (
        w.mark_full.auto.image ∙ c.loop-p.invariant.0,
        goes_on c.loop-p.invariant.1 (here ∙ marks-active _ _ (sym c.is_active.ensures ∙ w.if-is_active.true)) (rw w.from.ensures at w.mark_full.ensures) w.in_ok-left.was,
      )
      | else-is_active w ↦ rw (w.image-is, w.left-is) (
        c.loop-p.invariant.0,
        goes_same c.loop-p.invariant.1 (here ∙ marks-other _ _ (sym c.is_active.ensures ∙ w.if-is_active.false)),
      )
    ]

pub returns : goal.returns
unfolding full_marks keep
returns c = goes_end c.loop-p.invariant.1 (ap full_marks (listed_end (listed c.args.table.now) _ c.listed-p-items.ensures c.loop-p.p-index c.loop-p-test.false))
