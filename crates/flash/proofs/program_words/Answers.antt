-- `flash::program_words` meets its contract: the words that are left, made on the image as it is, are the whole. Assumes nothing.
use native.Mathlib.Omega.{arith}
use Rattle.flash.proofs.Laws.{goes_start, goes_on, goes_out, goes_end}
use Rattle.flash.proofs.Words.{words_more, words_end}
use Rattle.flash.proofs.program_words.Goals as goal

pub loop-k-init : goal.loop-k-init
loop-k-init c = goes_start _ _ _

pub returns-in_err-left : goal.returns-in_err-left
returns-in_err-left c =
    goes_out _ c.loop-k.invariant (words_more _ _ _ _ (omega arith)) c.program_word.ensures c.in_err-left.was c.from_residual.ensures.0

pub loop-k-preserved : goal.loop-k-preserved
loop-k-preserved c =
    goes_on c.loop-k.invariant (words_more _ _ _ _ (omega arith)) c.program_word.ensures c.in_ok-left.was

pub returns : goal.returns
returns c = goes_end c.loop-k.invariant (words_end _ _ _ _ (omega arith))
