-- Bridge: the table by which the CRC is computed: what the bits that are left of a word make of six of its bits, at each of the six places. Assumes nothing.
use Rattle.std.specs.Prelude.{List, [], ◌∷◌, ℕ, zero, suc, ◌-◌, ◌*◌, ◌/◌, ◌%◌}
use Rattle.crc.specs.Crc.{crc_bits}

-- the n values of f from i on
abbrev pub values : (ℕ → ℕ) → ℕ → ℕ → List ℕ
values f i zero = []
values f i (suc n) = f i ∷ values f (suc i) n

-- entry 64 * j + n of the table is the register after the last 32 - 6 * j bits of a word, where it began as n. The sixth place has two bits
unfoldable pub entry_of : ℕ → ℕ
entry_of k = crc_bits (32 - 6 * (k / 64)) (k % 64)

unfoldable pub crc_table : List ℕ
crc_table = values entry_of 0 324
