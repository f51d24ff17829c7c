-- Bridge: blobs that are sound by document 02, No. 2, so that what is proved of sound ones speaks of something, and blobs that are not, the buyer's bench image
-- first among them: one table, and one statement of all its rows. Assumes nothing.
use Rattle.std.specs.Prelude.{Bool, true, false, cond, not, ◌&&◌, List, [], ◌∷◌, ◌++◌, map, ℕ, ◌*◌, T, length, replicate}
use Rattle.word.specs.Number.{le, be}
use Rattle.entry.specs.Kinds.{kind_of}
use Rattle.entry.specs.Fields.{key_of}
use Rattle.lists.specs.Lists.{sum_of, all_to}
use Rattle.found.specs.Found.{Found, start_in, version_of}
use Rattle.versions.specs.Versions.{exact, size_in, sound}

-- an item of namespace 1 with a key of zeros, by its type, chunk index and data; no judgement of soundness asks for its place
abbrev pub item_of : ℕ → ℕ → List ℕ → Found
item_of kind chunk bytes = record { sector = 0; sequence = 1; entry = 0; raw = 1 ∷ kind ∷ 1 ∷ chunk ∷ (replicate 20 0 ++ bytes) }

-- a chunk of ten bytes; an index of so many of them that tells so many chunks and this start byte
abbrev pub chunk_item : ℕ → Found
chunk_item n = item_of 0x42 n (10 ∷ replicate 7 0)

abbrev pub index_item : ℕ → ℕ → ℕ → Found
index_item size count start = item_of 0x48 0xFF (size ∷ 0 ∷ 0 ∷ 0 ∷ count ∷ start ∷ 0xFF ∷ 0xFF ∷ [])

-- a blob: its chunk indices, and the count and the start byte of its index; whether it is sound
pub record Blob : Type 0 where
  pub chunks : List ℕ
  pub count : ℕ
  pub start : ℕ
  pub whole : Bool

abbrev pub right : Blob → Bool
right b =
    let i = index_item (length b.chunks * 10) b.count b.start in
    let s = sound (version_of i.raw) (map chunk_item b.chunks) i in cond b.whole s (not s)

abbrev pub all_right : List Blob → Bool
all_right [] = true
all_right (b ∷ bs) = right b && all_right bs

abbrev pub blobs : List Blob
blobs =
    record { chunks = 0 ∷ 1 ∷ []; count = 2; start = 0; whole = true }
    ∷ record { chunks = 0x81 ∷ 0x80 ∷ []; count = 2; start = 0x80; whole = true }
    ∷ record { chunks = []; count = 0; start = 0; whole = true }
    ∷ record { chunks = 0 ∷ 1 ∷ []; count = 2; start = 3; whole = true }
    ∷ record { chunks = 0 ∷ 0 ∷ []; count = 2; start = 0; whole = false }
    ∷ record { chunks = 0 ∷ 2 ∷ []; count = 2; start = 0; whole = false }
    ∷ record { chunks = 1 ∷ 2 ∷ []; count = 2; start = 0; whole = false }
    ∷ record { chunks = 3 ∷ 4 ∷ []; count = 2; start = 3; whole = false }
    ∷ []

-- every row holds
pub bench : T (all_right blobs)
unfolding le be kind_of key_of sum_of all_to start_in version_of exact size_in sound
bench = tt
