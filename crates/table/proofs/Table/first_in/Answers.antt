-- `Table::first_in` meets its contract. Assumes nothing.
use Rattle.std.proofs.Common.{◌∙◌, rules}
use borrow.Author.Tests.{tests}
use Rattle.std.proofs.lemmas.Iterator.{YieldsList-from_slice}
use Rattle.std.proofs.lemmas.Iterator.Search.{find_from_yields_List}
use Rattle.table.specs.Table.{listed}
use Rattle.table.specs.Sought.{in_state}
use Rattle.table.proofs.Found.{find_is, copied_is}
use Rattle.table.proofs.Table.first_in.Goals as goal

pub returns : goal.returns
returns c =
    let ps = listed c.args.self.now in
    let test = in_state c.args.wanted in
    c.copied.ensures
    ∙ copied_is c.find.result
    ∙ find_from_yields_List test _ _ c.find.result c.find.ensures.ran (YieldsList-from_slice ps (c.iter.ensures.rest ∙ c.listed.ensures)) (λ x b q k. search (rules, tests))
    ∙ find_is test ps
