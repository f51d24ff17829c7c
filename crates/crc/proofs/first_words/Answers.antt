-- `crc::first_words` meets its contract: the register, taken through the words that are left, is the whole run's. Assumes nothing.
use Rattle.crc.specs.Crc.{crc_from}
use Rattle.crc.proofs.Slicing.{piece-turn, piece_end}
use mathlib.Core.Path.{sym, ap, ◌∙◌}
use Prim.Native.Nat.{ℕ, ◌<◌}
use native.Mathlib.Omega.{arith}
use lib.ListN.{get_or}
use Rattle.crc.proofs.first_words.Goals as goal

pub loop-k-preserved : goal.loop-k-preserved
loop-k-preserved c =
    let s = c.args.s.now in
    let small : (j : ℕ) → get_or s j 0 < 256 = λ j. omega (arith, c.type_inv.s j) in
    rw (c.four_bytes-r.ensures, c.le32.ensures) (sym (piece-turn s c.args.n small c.requires c.loop-k.k c.loop-k.r c.loop-k-test.true) ∙ c.loop-k.invariant)

pub returns : goal.returns
unfolding crc_from
returns c =
    let s = c.args.s.now in
    let small : (j : ℕ) → get_or s j 0 < 256 = λ j. omega (arith, c.type_inv.s j) in
    ap (crc_from c.loop-k.r) (sym (piece_end s c.args.n small c.requires c.loop-k.k c.loop-k-test.false)) ∙ c.loop-k.invariant
