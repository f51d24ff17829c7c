-- Bridge: the name that an item is looked up by, as one number: namespace and key, and of a chunk its chunk index too. Assumes nothing.
use Rattle.std.specs.Prelude.{Bool, cond, ◌||◌, List, ℕ, ◌+◌, ◌*◌, ◌/◌, ◌%◌, ◌^◌, leb}
use Rattle.std.specs.Int.Bits.{bit_xor}
use Rattle.entry.specs.Fields.{namespace_of, chunk_index_of, key_of, key_number}
use Rattle.found.specs.Found.{is_chunk, is_part}

-- an item that stage 3 or stage 4 judges
abbrev pub judged : List ℕ → Bool
judged r = leb 1 (namespace_of r) || is_part r

-- what stands in front of the key: of a chunk more than of any other item
unfoldable pub front_of : List ℕ → ℕ
front_of r = cond (is_chunk r) (256 + namespace_of r * 256 + chunk_index_of r) (namespace_of r)

unfoldable pub name_of : List ℕ → ℕ
name_of r = front_of r * 2 ^ 128 + key_number (key_of r)

-- the name of the chunk number n of version v, which is namespace, start and key: (namespace * 256 + start) * 2 ^ 128 + key
abbrev pub chunk_name : ℕ → ℕ → ℕ
chunk_name v n = (256 + n) * 2 ^ 128 + v

-- the slot at which the search for a name begins: its front f and the halves h, l of its key, mixed
unfoldable pub slot_in : ℕ → ℕ → ℕ → ℕ
slot_in f h l =
    let both = bit_xor h (l / 8) in
    let mixed = bit_xor (bit_xor (both / 0x1_0000_0000 * 0x9E37_79B1) (both % 0x1_0000_0000 * 0x85EB_CA77)) (f * 0x1656_67B1) in
    bit_xor mixed (mixed / 0x1_0000_0000) / 0x10_0000 % 4096

unfoldable pub slot_of : ℕ → ℕ
slot_of k = slot_in (k / 2 ^ 128) (k % 2 ^ 128 / 2 ^ 64) (k % 2 ^ 128 % 2 ^ 64)
