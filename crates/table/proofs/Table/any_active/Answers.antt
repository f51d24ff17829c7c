-- `Table::any_active` meets its contract. Assumes nothing.
use Rattle.std.proofs.Common.{◌∙◌, rules}
use borrow.Author.Tests.{tests}
use Rattle.std.proofs.lemmas.Iterator.{YieldsList-from_slice}
use Rattle.std.proofs.lemmas.Iterator.Search.{any_from_yields_List}
use Rattle.table.specs.Table.{active_page, listed}
use Rattle.table.proofs.Found.{any_is}
use Rattle.table.proofs.Table.any_active.Goals as goal

pub returns : goal.returns
returns c =
    let ps = listed c.args.self.now in
    any_from_yields_List active_page _ _ _ c.any.ensures.ran (YieldsList-from_slice ps (c.iter.ensures.rest ∙ c.listed.ensures)) (λ x b q k. search (rules, tests))
    ∙ any_is active_page ps
