-- `crc::four_bytes` meets its contract: 32 bits of a register go by its six pieces. Assumes nothing.
use mathlib.Core.Path.{◌≡◌, sym, ap₂, ◌∙◌}
use Prim.Native.Nat.{ℕ, ◌+◌, ◌-◌, ◌*◌, ◌/◌, ◌%◌, ◌<◌}
use native.Mathlib.Omega.{arith}
use lib.ListN.{get_or}
use lib.Bits.{bit_xor}
use Rattle.crc.specs.Crc.{crc_bits}
use Rattle.crc.proofs.Places.{at_place}
use Rattle.crc.proofs.Slicing.{by_six}
use Rattle.crc.specs.declared.TheConstants.{TABLE}
use Rattle.crc.proofs.four_bytes.Goals as goal

pub returns : goal.returns
returns c =
    let x = c.args.x in
    let read : (j n i : ℕ) → n < 64 → i ≡ n + 64 * j → i < 324 → get_or TABLE i 0 ≡ crc_bits (32 - 6 * j) n = at_place in
    ap₂ bit_xor (read 0 (x % 64) (x % 64) (omega arith) (omega arith) (omega arith))
    (ap₂ bit_xor (read 1 (x / 64 % 64) (x / 64 % 64 + 64) (omega arith) (omega arith) (omega arith))
    (ap₂ bit_xor (read 2 (x / 64 / 64 % 64) (x / 64 / 64 % 64 + 128) (omega arith) (omega arith) (omega arith))
    (ap₂ bit_xor (read 3 (x / 64 / 64 / 64 % 64) (x / 64 / 64 / 64 % 64 + 192) (omega arith) (omega arith) (omega arith))
    (ap₂ bit_xor (read 4 (x / 64 / 64 / 64 / 64 % 64) (x / 64 / 64 / 64 / 64 % 64 + 256) (omega arith) (omega arith) (omega arith))
    (read 5 (x / 64 / 64 / 64 / 64 / 64) (x / 64 / 64 / 64 / 64 / 64 + 320) (omega (arith, c.ranges.x.fits)) (omega arith) (omega (arith, c.ranges.x.fits)))))))
    ∙ sym (by_six x)
