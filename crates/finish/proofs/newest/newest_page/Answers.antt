-- `finish::newest_page` meets its contract: the last among equals. Assumes nothing.
use Rattle.std.proofs.Common.{◌∙◌, rules}
use borrow.Author.Tests.{tests}
use Rattle.std.proofs.lemmas.Iterator.{YieldsList-from_slice}
use Rattle.table.specs.Table.{sequence, listed}
use Rattle.table.proofs.Found.{copied_is}
use Rattle.table.proofs.Greatest.{max_by_key_from_yields_List, last_best}
use Rattle.finish.specs.Finish.{newest}
use Rattle.finish.proofs.newest.newest_page.Goals as goal

pub returns : goal.returns
unfolding newest
returns c =
    let ps = listed c.args.table.now in
    c.copied.ensures
    ∙ copied_is c.max_by_key.result
    ∙ max_by_key_from_yields_List _ sequence c.max_by_key.result c.max_by_key.ensures.ran (YieldsList-from_slice ps (c.iter.ensures.rest ∙ c.listed.ensures)) (λ x r q k. search (rules, tests))
    ∙ last_best sequence ps
