-- `listing::put_all` meets its contract: a line for each row. Assumes nothing.
use mathlib.Core.Path.{sym}
use lib.Seq.{take_all}
use borrow.Author.Rules.{rules}
use Rattle.text.proofs.Putting.{grown-nothing, grown_both, grown_as, grown_whole}
use Rattle.listing.specs.Listing.{lines}
use Rattle.listing.proofs.Lines.{lines_more}
use Rattle.listing.proofs.put_all.Goals as goal

pub loop-n-init : goal.loop-n-init
unfolding lines
loop-n-init c = grown-nothing c.put_head.new.text

pub loop-n-preserved : goal.loop-n-preserved
loop-n-preserved c =
    grown_as (sym (lines_more c.args.rows.now c.loop-n.n _ c.loop-n-test.true)) (grown_both c.loop-n.invariant c.put_line.ensures)

pub returns : goal.returns
returns c =
    let all = rw (take_all c.loop-n.n c.args.rows.now c.loop-n-test.false) at c.loop-n.invariant in
    grown_whole c.new-text.ensures.unwritten c.new-text.ensures.start (search rules) (grown_both c.put_head.ensures all)
