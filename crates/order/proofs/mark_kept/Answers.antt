-- `order::mark_kept` meets its contract: the test decides whether there is a step. Assumes nothing.
use native.Mathlib.Omega.{arith}
use borrow.Author.Tests.{eq-eqb, ne_eqb}
use Rattle.flash.proofs.Laws.{did_none}
use Rattle.order.specs.Turns.{kept_mark}
use Rattle.order.proofs.mark_kept.Goals as goal

pub returns-then-p-ne0 : goal.returns-then-p-ne0
unfolding kept_mark
returns-then-p-ne0 c = rw (ne_eqb c.args.p.seen.empty 0 (λ z. omega arith)) (did_none _ _)

pub returns : goal.returns
unfolding kept_mark
returns c = rw (eq-eqb c.args.p.seen.empty 0 (omega arith)) (rw c.from.ensures at c.mark_full.ensures)
