-- `stages::last_stages` meets its contract: where no page is listed there are no steps, and where the quick test says yes, the last marks are the stages.
-- Assumes nothing.
use Rattle.table.specs.Table.{listed}
use Rattle.repair.proofs.Repairing.{calm-stages, no-page-stages}
use Rattle.repair.proofs.Counting.{none_counted, marks-counted}
use Rattle.std.proofs.Common.{arith}
use lib.ListN.{length-take}
use borrow.Author.Rules.{rules}
use Rattle.repair.proofs.last_stages.Goals as goal

pub returns-then-table-eq0 : goal.returns-then-table-eq0
returns-then-table-eq0 c =
    let a = c.args in
    let ps = listed a.table.now in
    (no-page-stages ps a.allowed a.image.now (omega (arith, length-take a.table.now.count a.table.now.pages, c.if-table-eq0.true)), none_counted a.image.now _ c.requires.2)

pub is_calm-requires : goal.is_calm-requires
is_calm-requires c = let room = c.requires.2.room in search rules

pub returns-then-is_calm : goal.returns-then-is_calm
returns-then-is_calm c =
    let a = c.args in
    let ps = listed a.table.now in
    let tested = c.is_calm.ensures in
    let made = c.close_full.ensures in
    (rw (calm-stages ps a.image.now (tested.0 c.if-is_calm.true)) made, marks-counted ps tested.2 made)
