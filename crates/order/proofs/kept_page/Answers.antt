-- `order::kept_page` meets its contract: the first among equals. Assumes nothing.
use Rattle.std.proofs.Common.{◌∙◌, ap, rules}
use Rattle.std.specs.List.{reduce}
use borrow.Author.Tests.{tests}
use Rattle.std.proofs.lemmas.Iterator.{YieldsList-from_slice}
use Rattle.std.proofs.lemmas.Iterator.Consumers.{YieldsList-from_filter, YieldsList-at}
use Rattle.lists.specs.Lists.{keep}
use Rattle.table.specs.Table.{sequence, active_page, listed}
use Rattle.table.proofs.Found.{copied_is, filtered}
use Rattle.table.proofs.Picked.{pick, reduced, picked_first}
use Rattle.order.specs.Order.{newer_page, kept}
use Rattle.order.proofs.kept_page.Goals as goal

pub returns : goal.returns
unfolding kept
returns c =
    let ps = listed c.args.table.now in
    c.copied.ensures
    ∙ copied_is c.reduce.result
    ∙ reduced _ _ (pick newer_page) _ (λ x y r q k. search (rules, tests)) c.reduce.result c.reduce.ensures.ran
    (YieldsList-from_filter _ active_page (YieldsList-at c.filter.ensures.source (YieldsList-from_slice ps (c.iter.ensures.rest ∙ c.listed.ensures))) c.filter.ensures.closure (λ x b q k. search (rules, tests)))
    ∙ ap (reduce (pick newer_page)) (filtered active_page ps)
    ∙ picked_first sequence (keep active_page ps)
