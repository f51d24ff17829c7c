-- `order::order_pages` meets its contract: the kept page is taken out, the others are marked and closed, and it comes last. Assumes nothing.
use mathlib.Core.Option.{some}
use mathlib.Core.Path.{◌≡◌, refl, sym, ap, ◌∙◌}
use mathlib.Core.List.{map}
use native.Mathlib.Omega.{arith}
use lib.ListN.{length, length-map}
use Rattle.flash.proofs.Laws.{did_none}
use Rattle.lists.specs.Lists.{take_out}
use Rattle.table.specs.declared.Page.{Page}
use Rattle.table.specs.Table.{listed, in_sector}
use Rattle.table.proofs.Seeking.{sought_found, sought_nothing}
use Rattle.table.proofs.Places.{out_placed, out-times, length-sum, page-fits}
use Rattle.order.specs.Order.{kept, order_steps, order_list, ordering, ordered}
use Rattle.order.specs.Turns.{closed_page}
use Rattle.order.proofs.Turns.{kept_in, ordering_is, ordered_is}
use Rattle.order.proofs.order_pages.Goals as goal
use Rattle.order.proofs.order_pages.Goals.{In-Some}

pub returns-in_default : goal.returns-in_default
unfolding ordering order_steps ordered order_list
returns-in_default c =
    let e = sought_nothing (kept (listed c.args.table.now)) (sym c.in_default.is ∙ c.kept_page.ensures) in
    (rw e (did_none _ _), record { list = rw e; free = refl })

-- a page is kept
found : (c : In-Some) → kept (listed c.args.table.now) ≡ some c.in-Some.a
found c = sought_found _ _ (sym c.in-Some.is ∙ c.kept_page.ensures)

pub make_marks-ran-requires : goal.make_marks-ran-requires
make_marks-ran-requires c =
    let o = c.take_out.ensures in
    let l = c.args.image.now in
    (rw (o.list, o.free) (out_placed _ c.requires), page-fits l l c.requires refl _ (kept_in (listed c.args.table.now) _ (found (goal.at.make_marks-ran-requires c).In-Some)))

pub append_page-requires : goal.append_page-requires
append_page-requires c =
    let ps = listed c.args.table.now in
    let a = c.in-Some.a in
    let out = out-times c.requires a (kept_in ps a (found (goal.at.append_page-requires c).In-Some)) (λ (q : Page). 1) in
    let rest = take_out (in_sector a.sector) ps in
    let long : length (listed c.close_all.new.table) ≡ length rest = ap length (c.close_all.ensures.list ∙ ap (map closed_page) c.take_out.ensures.list) ∙ length-map rest closed_page in
    omega (arith, long, out, length-sum rest, length-sum ps, c.requires.sixteen)

pub returns : goal.returns
returns c =
    let ps = listed c.args.table.now in
    let e = found (goal.at.returns c).In-Some in
    let o = c.take_out.ensures in
    let closed = c.close_all.ensures in (
      rw (ordering_is ps _ e) (rw o.list at c.make_marks-ran.ensures),
      record {
        list = c.append_page.ensures.list ∙ rw (closed.list, o.list, c.kept_as.ensures) (sym (ordered_is ps _ e));
        free = c.append_page.ensures.free ∙ closed.free ∙ o.free;
      },
    )
