-- `flash::program_word` meets its contract: each byte is set to its AND, as the definition sets it. Assumes nothing.
use mathlib.Core.Path.{◌≡◌, ◌∙◌}
use native.Mathlib.Omega.{arith}
use Rattle.std.proofs.Common.{rules}
use Rattle.flash.specs.Step.{apply, and8}
use Rattle.flash.proofs.Laws.{did_one, did-zero}
use Rattle.flash.proofs.Bytes.{puts_word, puts_more}
use Rattle.flash.proofs.program_word.Goals as goal

pub returns-then-left-eq0 : goal.returns-then-left-eq0
returns-then-left-eq0 c = did-zero _ _ _ _ c.if-left-eq0.true

pub loop-k-preserved : goal.loop-k-preserved
unfolding and8
loop-k-preserved c = puts_more _ _ _ _ _ _ c.loop-k.invariant (search rules)

pub returns : goal.returns
unfolding apply
returns c = let k : c.loop-k.k ≡ 4 = omega arith in did_one _ _ _ _ (omega arith) (c.loop-k.invariant ∙ puts_word _ _ _ _ k)
