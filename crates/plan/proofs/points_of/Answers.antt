-- `plan::points_of` meets its contract. Assumes nothing.
use borrow.Author.Tests.{eq-eqb, ne_eqb}
use Rattle.plan.specs.Plan.{points}
use Rattle.plan.proofs.points_of.Goals as goal

pub returns-then-p-eq0 : goal.returns-then-p-eq0
unfolding points
returns-then-p-eq0 c = rw (eq-eqb _ _ c.if-p-eq0.true)

pub returns : goal.returns
unfolding points
returns c = rw (ne_eqb _ _ c.if-p-eq0.false, c.from.ensures, c.saturating_sub.ensures, c.from-2.ensures)
