-- `crc::run` meets its contract: the register, taken through the bytes that are left, is the whole run's. Assumes nothing.
use lib.ListN.{length, drop, drop_of_length-le, length-drop}
use lib.Seq.{take_all}
use Rattle.crc.specs.Crc.{crc_from}
use Rattle.crc.proofs.Slicing.{byte-turn, words_first}
use mathlib.Core.Path.{sym, ap, ◌∙◌}
use Prim.Native.Nat.{◌*◌, ◌-◌, ◌/◌}
use native.Mathlib.Omega.{arith}
use Rattle.crc.proofs.run.Goals as goal

pub loop-b-init : goal.loop-b-init
loop-b-init c =
    let s = c.args.s.now in
    let m = 4 * (length s / 4) in
    ap (crc_from c.first_words-r.result) (take_all (length s - m) (drop m s) (omega (arith, length-drop m s))) ∙ rw c.first_words-r.ensures (words_first s m c.args.from)

pub loop-b-preserved : goal.loop-b-preserved
loop-b-preserved c =
    rw (c.one_byte-r.ensures, c.from.ensures) (sym (byte-turn _ c.loop-b.b-index c.loop-b.r c.loop-b-test.true) ∙ c.loop-b.invariant)

pub returns : goal.returns
unfolding crc_from
returns c = ap (crc_from c.loop-b.r) (sym (drop_of_length-le _ c.loop-b-test.false)) ∙ c.loop-b.invariant
