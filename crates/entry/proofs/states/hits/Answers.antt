-- `entry::hits` meets its contract: the operation is the definition, and a word has no more ones than digits. Assumes nothing.
use mathlib.Core.Path.{refl}
use native.Mathlib.Nat.{lt_of_le_of_lt}
use Prim.Native.Nat.{ℕ, ◌/◌}
use lib.Bits.{bit_and, bit_xor, and_le_r}
use lib.Count.{ones-le}
use Rattle.entry.specs.Ones.{masked}
use Rattle.entry.proofs.states.hits.Goals as goal

pub returns : goal.returns
unfolding masked
returns c =
    let x : ℕ = bit_xor c.args.w c.args.flip in
    let y : ℕ = bit_and x (x / 2) in
    (refl, ones-le 64 (bit_and y c.args.mask) (lt_of_le_of_lt (and_le_r y c.args.mask) c.ranges.mask.fits))
