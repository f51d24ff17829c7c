-- Rule. Document 01, Reading a page: the item walk of a sector t of 4,096 bytes. Assumes nothing.
use Rattle.std.specs.Prelude.{Bool, cond, ◌&&◌, List, [], ◌∷◌, ℕ, zero, suc, ◌+◌, ◌*◌, eqb, leb, Option, Some, None}
use Rattle.word.specs.Number.{part}
use Rattle.entry.specs.States.{written, state_at}
use Rattle.entry.specs.Kinds.{known}
use Rattle.entry.specs.Fields.{entry_at, namespace_of, kind_in, span_of, chunk_index_of, crc_in, entry_crc, key_of, data_of}
use Rattle.page.specs.declared.walk.ItemHeader.{ItemHeader}
use Rattle.page.specs.State.{state_of, is_free}

-- "an entry is a readable item if Written, its CRC right, its type known": the last two are of its 32 bytes h
unfoldable pub right_header : List ℕ → Bool
right_header h = eqb (crc_in h) (entry_crc h) && known (kind_in h)

abbrev pub readable : List ℕ → ℕ → Bool
readable t i = eqb (state_at t i) written && right_header (entry_at t i)

-- "so too where span is 0 or index + span exceeds 126. Otherwise it is an item"
abbrev pub fits : ℕ → ℕ → Bool
fits i n = leb 1 n && leb (i + n) 126

unfoldable pub is_item : List ℕ → ℕ → Bool
is_item t i = readable t i && fits i (span_of (entry_at t i))

-- an item as it lies on its page: its entry and all its bytes, header and payload
pub record Laid : Type 0 where
  pub entry : ℕ
  pub raw : List ℕ

abbrev pub laid_at : List ℕ → ℕ → Laid
laid_at t i = record { entry = i; raw = part t (64 + i * 32) (span_of (entry_at t i) * 32) }

-- "Where the entry is no readable item the walk goes on by one; so too where span is 0 or index + span exceeds 126. Otherwise it is an item and the walk
-- goes on by its span."
abbrev pub on_from : List ℕ → ℕ → ℕ
on_from t i = cond (is_item t i) (i + span_of (entry_at t i)) (i + 1)

-- the items that the walk meets from entry i on, in n turns. An entry past 125 is never an item, so 126 turns are enough
unfoldable pub walk : List ℕ → ℕ → ℕ → List Laid
walk t zero i = []
walk t (suc n) i = cond (is_item t i) (laid_at t i ∷ walk t n (on_from t i)) (walk t n (on_from t i))

-- "Item walk, from entry 0"; "A Blank or Corrupt sector has none."
unfoldable pub items_of : List ℕ → List Laid
items_of t = cond (is_free (state_of t)) [] (walk t 126 0)

-- what a caller is told of the item at entry i whose bytes begin with h
unfoldable pub header_of : ℕ → List ℕ → ItemHeader
header_of i h =
    record { entry = i; namespace = namespace_of h; kind = kind_in h; span = span_of h; chunk_index = chunk_index_of h; key = key_of h; data_bytes = data_of h }

-- the reading of entry i
unfoldable pub reading_of : List ℕ → ℕ → Option ItemHeader
reading_of t i = cond (is_item t i) (Some (header_of i (entry_at t i))) None
