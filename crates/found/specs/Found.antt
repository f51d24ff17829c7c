-- Rule. Document 01, Recovery 3 and 4: the items found on the listed pages as a stage begins, their age, and the versions and groups they belong to.
-- Assumes nothing.
use Rattle.std.specs.Prelude.{Bool, true, false, cond, ◌&&◌, ◌||◌, ℕ, ◌+◌, ◌*◌, ◌^◌, eqb, leb, ltb}
use mathlib.Core.List.{List, map, flat_map}
use Rattle.entry.specs.declared.kinds.Kind.{Kind}
use Rattle.entry.specs.declared.kinds.Kind.TheVariants.{Unsigned, Signed, Text, Blob, Chunk, Index, Unknown}
use Rattle.entry.specs.Fields.{namespace_of, kind_in, span_of, chunk_index_of, key_of, key_number, index_start, start_of}
use Rattle.page.specs.Walk.{Laid}
use Rattle.flash.specs.Step.{Step}
use Rattle.item.specs.Erase.{erasing}
use Rattle.lists.specs.Lists.{keep}
use Rattle.table.specs.declared.Page.{Page}
use Rattle.table.specs.Table.{items_in, sequence}

-- an item with its page
pub record Found : Type 0 where
  pub sector : ℕ
  pub sequence : ℕ
  pub entry : ℕ
  pub raw : List ℕ

-- "in list order, then entry order"
unfoldable pub found_on : List ℕ → Page → List Found
found_on l p = map (λ (x : Laid). record { sector = p.sector; sequence = sequence p; entry = x.entry; raw = x.raw }) (items_in p.sector l)

unfoldable pub found : List Page → List ℕ → List Found
found ps l = flat_map (found_on l) ps

-- "Newer means greater (sequence, entry), then later in the list": y, which stands later, is newer than x
unfoldable pub newer : Found → Found → Bool
newer y x = cond (eqb y.sequence x.sequence) (leb x.entry y.entry) (ltb x.sequence y.sequence)

-- chunk, blob index
abbrev pub chunk_kind : Kind → Bool
chunk_kind (Unsigned n) = false
chunk_kind (Signed n) = false
chunk_kind Text = false
chunk_kind Blob = false
chunk_kind Chunk = true
chunk_kind Index = false
chunk_kind Unknown = false

abbrev pub index_kind : Kind → Bool
index_kind (Unsigned n) = false
index_kind (Signed n) = false
index_kind Text = false
index_kind Blob = false
index_kind Chunk = false
index_kind Index = true
index_kind Unknown = false

abbrev pub is_chunk : List ℕ → Bool
is_chunk r = chunk_kind (kind_in r)

abbrev pub is_index : List ℕ → Bool
is_index r = index_kind (kind_in r)

abbrev pub is_part : List ℕ → Bool
is_part r = is_chunk r || is_index r

-- "start 0 for a byte below 0x80, else 0x80; a chunk's chunk index is judged alike"
unfoldable pub start_in : List ℕ → ℕ
start_in r = start_of (cond (is_chunk r) (chunk_index_of r) (index_start r))

-- "A version is (namespace, key, start)", as one number, so that "ascending (namespace, start, key)" is ascending
unfoldable pub version_of : List ℕ → ℕ
version_of r = (namespace_of r * 256 + start_in r) * 2 ^ 128 + key_number (key_of r)

-- "grouped by namespace and key", "ascending (namespace, key)"
unfoldable pub group_of : List ℕ → ℕ
group_of r = namespace_of r * 2 ^ 128 + key_number (key_of r)

abbrev pub index_of : ℕ → List ℕ → Bool
index_of v r = is_index r && eqb (version_of r) v

abbrev pub chunk_of : ℕ → List ℕ → Bool
chunk_of v r = is_chunk r && eqb (version_of r) v

-- the chunks of a version, "in list order, then entry order"
abbrev pub chunks : ℕ → List Found → List Found
chunks v fs = keep (λ (x : Found). chunk_of v x.raw) fs

-- items erased one after the other, each with its whole span
unfoldable pub erase_all : List Found → List Step
erase_all fs = flat_map (λ (x : Found). erasing x.sector x.entry (span_of x.raw)) fs
