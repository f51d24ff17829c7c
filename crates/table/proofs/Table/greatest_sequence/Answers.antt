-- `Table::greatest_sequence` meets its contract. Assumes nothing.
use Rattle.std.proofs.Common.{◌∙◌, max, arith, rules}
use borrow.Author.Tests.{tests}
use Rattle.std.proofs.lemmas.Iterator.{YieldsList-from_slice}
use Rattle.std.proofs.lemmas.Iterator.Consumers.{fold_from_yields_List}
use Rattle.table.specs.Table.{sequence, listed}
use Rattle.table.proofs.Found.{fold_max}
use Rattle.table.proofs.Table.greatest_sequence.Goals as goal

pub returns : goal.returns
returns c =
    let ps = listed c.args.self.now in
    fold_from_yields_List _ (λ g p. max g (sequence p)) 0 c.fold.result c.fold.ensures.ran (YieldsList-from_slice ps (c.iter.ensures.rest ∙ c.listed.ensures)) (λ a x b q k. search (rules, tests))
    ∙ fold_max sequence 0 ps ∙ omega arith
