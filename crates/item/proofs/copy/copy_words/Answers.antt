-- `item::copy_words` meets its contract: a word made in the lent part is that word of the image, and the source stays as it was. Assumes nothing.
use mathlib.Core.Path.{refl, ◌∙◌}
use Prim.Native.Nat.{◌+◌, ◌-◌, ◌*◌}
use native.Mathlib.Omega.{arith}
use Rattle.flash.proofs.Laws.{goes_start, goes_on, goes_out, goes_end}
use native.Mathlib.Nat.{sub-zero}
use Rattle.word.specs.Number.{part}
use Rattle.flash.proofs.Words.{words_end}
use Rattle.flash.proofs.Every.{every_one}
use Rattle.flash.proofs.Frame.{did-kept}
use Rattle.flash.proofs.Lent.{did-lent}
use Rattle.item.proofs.Turns.{copy_more}
use Rattle.item.proofs.copy.copy_words.Goals as goal

pub loop-k-init : goal.loop-k-init
loop-k-init c = (refl, rw sub-zero (goes_start _ _ _))

pub returns-in_err-left : goal.returns-in_err-left
returns-in_err-left c =
    let more = c.loop-k-test.true in
    let a = c.args in
    let v = c.loop-k in
    let made = did-lent a.to (a.end - a.to) v.image (every_one _ _ (omega (arith, more, c.requires.1))) c.program_word.ensures in
    goes_out _ v.invariant.1 (copy_more a.to a.from a.n v.k more v.image a.image.now v.invariant.0) made c.in_err-left.was c.from_residual.ensures.0

pub loop-k-preserved : goal.loop-k-preserved
loop-k-preserved c =
    let more = c.loop-k-test.true in
    let a = c.args in
    let v = c.loop-k in
    let made = did-lent a.to (a.end - a.to) v.image (every_one _ _ (omega (arith, more, c.requires.1))) c.program_word.ensures in (
      did-kept a.to (a.to + a.n * 4) a.from (a.n * 4) (every_one _ _ (omega (arith, more), omega (arith, more))) c.requires.3 made ∙ v.invariant.0,
      goes_on v.invariant.1 (copy_more a.to a.from a.n v.k more v.image a.image.now v.invariant.0) made c.in_ok-left.was,
    )

pub returns : goal.returns
returns c =
    let a = c.args in
    goes_end c.loop-k.invariant.1 (words_end a.to (part a.image.now a.from (a.n * 4)) c.loop-k.k a.n (omega (arith, c.loop-k-test.false)))
