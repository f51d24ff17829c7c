-- `finishing::count_freeing` meets its contract: as many as are kept of the list. Assumes nothing.
use Rattle.std.proofs.Common.{◌≡◌, ◌∙◌, ap, rules, arith, length}
use borrow.Author.Tests.{tests}
use Rattle.std.proofs.lemmas.Iterator.{YieldsList-from_slice}
use Rattle.std.proofs.lemmas.Iterator.Consumers.{count_from_yields_List, YieldsList-from_filter, YieldsList-at}
use Rattle.page.specs.declared.state.PageState.TheVariants.{Freeing}
use Rattle.table.specs.Table.{listed}
use Rattle.table.specs.Sought.{in_state}
use Rattle.table.proofs.Found.{filtered}
use Rattle.table.proofs.Held.{few_listed}
use Rattle.finishing.specs.Finishing.{freeings}
use Rattle.finishing.proofs.Rounds.{counted}
use Rattle.finishing.proofs.Lengths.{freeings_most}
use Rattle.finishing.proofs.count_freeing.Goals as goal

pub returns : goal.returns
returns c =
    let ps = listed c.args.table.now in
    let road = YieldsList-at c.filter.ensures.source (YieldsList-from_slice ps (c.iter.ensures.rest ∙ c.listed.ensures)) in
    let is : c.count.result ≡ freeings ps =
    count_from_yields_List _ c.count.result c.count.ensures.ran (YieldsList-from_filter _ (in_state Freeing) road c.filter.ensures.closure (λ x b q k. search (rules, tests)))
    ∙ ap length (filtered (in_state Freeing) ps) ∙ counted ps in
    (is, omega (arith, is, freeings_most ps, few_listed c.args.table.now))
