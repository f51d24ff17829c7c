-- `finish::newest_holds` meets its contract: the first test that fails decides. Assumes nothing.
use mathlib.Core.Path.{◌≡◌, refl, sym, ◌∙◌}
use mathlib.Core.Option.{some}
use borrow.Author.Tests.{lt-ltb, le-ltb}
use Rattle.lists.proofs.Search.{best_in}
use Rattle.table.specs.Table.{listed, items_in}
use Rattle.table.proofs.Seeking.{sought_found, sought_nothing}
use Rattle.table.proofs.Places.{page-fits}
use Rattle.finish.specs.Finish.{no_older_page, newest, newest_holds}
use Rattle.finish.proofs.Likeness.{holds_is}
use Rattle.finish.proofs.newest.newest_holds.Goals as goal
use Rattle.finish.proofs.newest.newest_holds.Goals.{In-Some}

pub returns-in_default : goal.returns-in_default
unfolding newest_holds
returns-in_default c =
    let e = sought_nothing (newest (listed c.args.table.now)) (sym c.in_default.is ∙ c.newest_page.ensures) in
    rw e

-- a page is the newest
found : (c : In-Some) → newest (listed c.args.table.now) ≡ some c.in-Some.y
found c = sought_found _ _ (sym c.in-Some.is ∙ c.newest_page.ensures)

pub returns-then-y-x : goal.returns-then-y-x
unfolding newest_holds
returns-then-y-x c = rw (found (goal.at.returns-then-y-x c).In-Some, le-ltb _ _ c.if-y-x.true)

pub matches-requires : goal.matches-requires
unfolding newest
matches-requires c =
    let l = c.args.image.now in
    let place = page-fits l l c.requires.0 refl _ (best_in no_older_page (listed c.args.table.now) _ (found (goal.at.matches-requires c).In-Some)) in
    (rw c.from.ensures c.requires.1, rw c.from-2.ensures place)

pub returns : goal.returns
unfolding newest_holds
returns c =
    let l = c.args.image.now in
    rw (found (goal.at.returns c).In-Some, lt-ltb _ _ c.if-y-x.false) ((rw (c.from.ensures, c.from-2.ensures) at c.matches.ensures) ∙ holds_is (items_in c.in-Some.y.sector l) (items_in c.args.x.sector l))
