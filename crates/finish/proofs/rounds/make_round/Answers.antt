-- `finish::make_round` meets its contract: the source is taken out, and whether a page is Active decides. Assumes nothing.
use mathlib.Core.Path.{◌≡◌, sym, ap, ◌∙◌}
use mathlib.Core.Option.{none, some}
use Rattle.page.specs.declared.state.PageState.TheVariants.{Active}
use Rattle.lists.specs.Lists.{first_of, take_out}
use Rattle.lists.proofs.Member.{◌∈◌}
use Rattle.table.specs.Table.{active_page, freeing_page, in_sector, listed}
use Rattle.table.specs.Sought.{in_state}
use Rattle.table.proofs.Seeking.{first_member, first_same, active_is, sought_found, sought_nothing}
use Rattle.table.proofs.Places.{apart_placed}
use Rattle.finish.specs.Finish.{round}
use Rattle.finish.proofs.Makes.{next-below}
use Rattle.finish.proofs.rounds.make_round.Goals as goal
use Rattle.finish.proofs.rounds.make_round.Goals.{Start}

-- the source is listed
source_in : (c : Start) → c.args.x ∈ listed c.args.table.now
source_in c = first_member freeing_page (listed c.args.table.now) c.args.x c.requires.1

pub without_active-requires : goal.without_active-requires
without_active-requires c =
    let o = c.take_out.ensures in
    let m = source_in (goal.at.without_active-requires c).Start in (
      rw (o.list, o.free) (apart_placed c.args.x c.requires.0 m),
      rw o.list (next-below (in_sector c.args.x.sector) c.args.x (listed c.args.table.now) m c.requires.2),
    )

pub returns-in_default : goal.returns-in_default
unfolding round
returns-in_default c =
    let o = c.take_out.ensures in
    let ps = take_out (in_sector c.args.x.sector) (listed c.args.table.now) in
    let e : first_of active_page ps ≡ none =
    ap (first_of active_page) (sym o.list) ∙ sym (first_same (in_state Active) active_page active_is _) ∙ sought_nothing _ (sym c.in_default.is ∙ c.first_in.ensures) in
    rw e (rw (o.list, o.free) at c.without_active.ensures)

pub beside_active-requires : goal.beside_active-requires
beside_active-requires c =
    let o = c.take_out.ensures in
    let m = source_in (goal.at.beside_active-requires c).Start in (
      rw (o.list, o.free) (apart_placed c.args.x c.requires.0 m),
      sym (first_same (in_state Active) active_page active_is _) ∙ sought_found _ _ (sym c.in-Some.is ∙ c.first_in.ensures),
      rw o.list (next-below (in_sector c.args.x.sector) c.args.x (listed c.args.table.now) m c.requires.2),
    )

pub returns : goal.returns
unfolding round
returns c =
    let o = c.take_out.ensures in
    let ps = take_out (in_sector c.args.x.sector) (listed c.args.table.now) in
    let e : first_of active_page ps ≡ some c.in-Some.y =
    ap (first_of active_page) (sym o.list) ∙ sym (first_same (in_state Active) active_page active_is _) ∙ sought_found _ _ (sym c.in-Some.is ∙ c.first_in.ensures) in
    rw e (rw (o.list, o.free) at c.beside_active.ensures)
