-- `crc::one_byte` meets its contract: eight bits of a register go by six and two. Assumes nothing.
use mathlib.Core.Path.{◌≡◌, sym, ap, ap₂, ◌∙◌}
use Prim.Native.Nat.{ℕ, ◌+◌, ◌-◌, ◌*◌, ◌/◌, ◌%◌, ◌<◌}
use native.Mathlib.Omega.{arith}
use lib.ListN.{get_or}
use lib.Bits.{bit_xor}
use Rattle.crc.specs.Crc.{crc_bits}
use Rattle.crc.proofs.Places.{at_place}
use Rattle.crc.proofs.Slicing.{eight}
use Rattle.crc.specs.declared.TheConstants.{TABLE}
use Rattle.crc.proofs.one_byte.Goals as goal

pub returns : goal.returns
returns c =
    let x = c.args.x in
    let read : (j n i : ℕ) → n < 64 → i ≡ n + 64 * j → i < 324 → get_or TABLE i 0 ≡ crc_bits (32 - 6 * j) n = at_place in
    ap₂ bit_xor (read 4 (x % 64) (x % 64 + 256) (omega arith) (omega arith) (omega arith))
    (ap (bit_xor (x / 64 / 4)) (read 5 (x / 64 % 4) (x / 64 % 4 + 320) (omega arith) (omega arith) (omega arith)))
    ∙ sym (eight x)
