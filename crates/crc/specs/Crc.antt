-- Rule. Document 01, Sector layout: "CRC: 32 bits, reflected polynomial 0xEDB88320, register zero at the start, complemented at the end." Bit by bit.
-- Assumes nothing.
use Rattle.std.specs.Prelude.{List, [], ◌∷◌, ℕ, zero, suc, ◌-◌, ◌/◌, ◌%◌, ◌^◌}
use Rattle.std.specs.Int.Bits.{bit_xor}

-- the first where the digit is 0, else the second
abbrev pub by_digit : ℕ → ℕ → ℕ → ℕ
by_digit zero a b = a
by_digit (suc d) a b = b

-- one bit: the register is shifted right, and where a one falls out the "reflected polynomial 0xEDB88320" is taken in
unfoldable pub crc_bit : ℕ → ℕ
crc_bit r = by_digit (r % 2) (r / 2) (bit_xor (r / 2) 0xEDB88320)

-- n bits
unfoldable pub crc_bits : ℕ → ℕ → ℕ
crc_bits zero r = r
crc_bits (suc n) r = crc_bits n (crc_bit r)

-- one byte: taken into the low end of the register, then eight bits
unfoldable pub crc_byte : ℕ → ℕ → ℕ
crc_byte r b = crc_bits 8 (bit_xor r b)

-- the register r after a list of bytes
unfoldable pub crc_from : ℕ → List ℕ → ℕ
crc_from r [] = r
crc_from r (b ∷ bs) = crc_from (crc_byte r b) bs

-- "complemented at the end"
abbrev pub complement : ℕ → ℕ
complement r = (2 ^ 32 - 1) - r

-- "register zero at the start"
unfoldable pub crc_of : List ℕ → ℕ
crc_of s = complement (crc_from 0 s)
