-- `plan::choose` meets its contract: the last among equals. Assumes nothing.
use Rattle.std.proofs.Common.{◌≡◌, ◌∙◌, ◌+◌, ap, rules, arith}
use Rattle.std.specs.List.{reduce}
use borrow.Author.Tests.{tests}
use Rattle.std.proofs.lemmas.Iterator.{YieldsList-from_slice}
use Rattle.std.proofs.lemmas.Iterator.Consumers.{YieldsList-from_filter, YieldsList-at}
use Rattle.lists.specs.Lists.{keep, best}
use Rattle.table.specs.Table.{listed}
use Rattle.table.specs.Sought.{sought_of}
use Rattle.table.proofs.Found.{copied_is, filtered}
use Rattle.table.proofs.Picked.{pick, reduced, picked_last}
use Rattle.plan.specs.Plan.{candidate, next, points, no_fewer_points, chosen}
use Rattle.plan.proofs.choose.Goals as goal

pub returns : goal.returns
unfolding chosen
returns c =
    let ps = listed c.args.table.now in
    let m = c.from.result + 1 in
    let n : m ≡ next ps = omega (arith, c.requires, c.from.ensures) in
    c.copied.ensures
    ∙ copied_is c.reduce.result
    ∙ reduced _ _ (pick (no_fewer_points m)) _ (λ x y r q k. search (rules, tests)) c.reduce.result c.reduce.ensures.ran
    (YieldsList-from_filter _ candidate (YieldsList-at c.filter.ensures.source (YieldsList-from_slice ps (c.iter.ensures.rest ∙ c.listed.ensures))) c.filter.ensures.closure (λ x b q k. search (rules, tests)))
    ∙ ap (reduce (pick (no_fewer_points m))) (filtered candidate ps)
    ∙ picked_last (points m) (keep candidate ps)
    ∙ ap (λ m. sought_of (best (no_fewer_points m) (keep candidate ps))) n
