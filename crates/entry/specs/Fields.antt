-- Rule. Document 01, Sector layout: the fields of an entry, of which h are the 32 bytes, or of an item, which begins with them. Assumes nothing.
use Rattle.std.specs.Prelude.{cond, List, ◌++◌, ℕ, ◌+◌, ◌*◌, ◌%◌, ◌^◌, ltb, get_or, take, drop}
use Rattle.word.specs.Number.{part, le, be}
use Rattle.crc.specs.Crc.{crc_of}
use Rattle.entry.specs.declared.kinds.Kind.{Kind}
use Rattle.entry.specs.declared.fields.Key.{Key}
use Rattle.entry.specs.Kinds.{kind_of}

-- "then 126 entries of 32 bytes from byte 64"
abbrev pub entry_at : List ℕ → ℕ → List ℕ
entry_at t i = part t (64 + i * 32) 32

-- "Entry: byte 0 namespace, 1 type, 2 span, 3 chunk index"
abbrev pub namespace_of : List ℕ → ℕ
namespace_of h = get_or h 0 0

abbrev pub kind_in : List ℕ → Kind
kind_in h = kind_of (get_or h 1 0)

abbrev pub span_of : List ℕ → ℕ
span_of h = get_or h 2 0

abbrev pub chunk_index_of : List ℕ → ℕ
chunk_index_of h = get_or h 3 0

-- "4-7 CRC of bytes 0-3 and 8-31"
abbrev pub crc_in : List ℕ → ℕ
crc_in h = le h 4 4

unfoldable pub entry_crc : List ℕ → ℕ
entry_crc h = crc_of (take 4 h ++ drop 8 h)

-- "8-23 key": sixteen bytes, compared from the first on, as one number of two halves
unfoldable pub key_of : List ℕ → Key
key_of h = record { high = be h 8 8; low = be h 16 8 }

abbrev pub key_number : Key → ℕ
key_number k = k.high * 2 ^ 64 + k.low

-- "24-31 data": as a number
abbrev pub data_of : List ℕ → ℕ
data_of h = le h 24 8

-- "A chunk's data begins with its size in 2 bytes."
abbrev pub chunk_size : List ℕ → ℕ
chunk_size h = le h 24 2

-- "A blob index has size in 4 bytes, chunk count in 1, chunk start in 1."
abbrev pub index_size : List ℕ → ℕ
index_size h = le h 24 4

abbrev pub index_count : List ℕ → ℕ
index_count h = get_or h 28 0

abbrev pub index_start : List ℕ → ℕ
index_start h = get_or h 29 0

-- Recovery, 3: "start 0 for a byte below 0x80, else 0x80; a chunk's chunk index is judged alike"
abbrev pub start_of : ℕ → ℕ
start_of b = cond (ltb b 0x80) 0 0x80

-- document 02, No. 2: "start, start + 1 and so on": a chunk's number, counted from its version's start
abbrev pub chunk_number : List ℕ → ℕ
chunk_number h = chunk_index_of h % 0x80
