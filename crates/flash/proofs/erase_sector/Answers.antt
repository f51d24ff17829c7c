-- `flash::erase_sector` meets its contract: the part that was lent comes back blank, and the rest is as it was. Assumes nothing.
use native.Mathlib.Omega.{arith}
use borrow.Author.Rules.{rules}
use Rattle.flash.specs.Step.{apply, blank}
use Rattle.flash.proofs.Laws.{did_one, did-zero}
use Rattle.flash.proofs.Erased.{lent-erase}
use Rattle.flash.proofs.erase_sector.Goals as goal

pub returns-then-left-eq0 : goal.returns-then-left-eq0
returns-then-left-eq0 c = did-zero _ _ _ _ c.if-left-eq0.true

pub returns : goal.returns
unfolding apply blank
returns c = did_one _ _ _ _ (omega arith) (lent-erase _ _ _ (c.fill.ensures.after (λ y q. search rules)))
