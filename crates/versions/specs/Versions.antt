-- Rule. Document 01, Recovery: "3. Blobs.", and document 02, No. 2: a version, and two of a group, judged by the items fs found as the stage begins. Assumes nothing.
use Rattle.std.specs.Prelude.{Bool, false, cond, ◌&&◌, ◌||◌, List, [], ◌++◌, ℕ, ◌+◌, ◌*◌, ◌/◌, ◌%◌, ◌^◌, eqb}
use Rattle.std.proofs.Math.Option.{Option, none, some}
use Rattle.entry.specs.States.{one}
use Rattle.entry.specs.Fields.{chunk_number, chunk_size, index_size, index_count}
use Rattle.flash.specs.Step.{Step}
use Rattle.item.specs.Erase.{erasing}
use Rattle.lists.specs.Lists.{keep, sum_of, all_to, best}
use Rattle.found.specs.Found.{Found, newer, version_of, index_of, chunk_of, chunks, erase_all}

-- "Of several indices of a version the newest counts."
abbrev pub indices : ℕ → List Found → List Found
indices v fs = keep (λ (x : Found). index_of v x.raw) fs

unfoldable pub counting : ℕ → List Found → Option Found
counting v fs = best newer (indices v fs)

-- Document 02, No. 2: "its chunk indices are exactly start, start + 1 and so on up to the count, each once": each number below the count c is that of one
-- chunk, and there are no more chunks (so none has another number: proofs/Exact, `exact-numbers` and, the other way, `numbers-exact`)
abbrev pub chunk_numbered : ℕ → ℕ → List ℕ → Bool
chunk_numbered v n r = chunk_of v r && eqb (chunk_number r) n

unfoldable pub exact : ℕ → List Found → ℕ → Bool
exact v fs c =
    eqb c (sum_of (λ (x : Found). one (chunk_of v x.raw)) fs)
    && all_to (λ (n : ℕ). eqb (sum_of (λ (x : Found). one (chunk_numbered v n x.raw)) fs) 1) c

-- "a version is sound only if its chunk indices are exactly [these], besides the size sum"
unfoldable pub size_in : ℕ → List ℕ → ℕ
size_in v r = cond (chunk_of v r) (chunk_size r) 0

unfoldable pub sound : ℕ → List Found → Found → Bool
sound v fs i = exact v fs (index_count i.raw) && eqb (index_size i.raw) (sum_of (λ (x : Found). size_in v x.raw) fs)

-- "the index entry (one entry) is erased, then its chunks"
unfoldable pub drop_version : ℕ → Found → List Found → List Step
drop_version v i fs = erasing i.sector i.entry 1 ++ erase_all (chunks v fs)

-- "No index: its chunks are erased."; one that is not sound: "the index entry .., then its chunks."
unfoldable pub judge_with : ℕ → List Found → Option Found → List Step
judge_with v fs none = erase_all (chunks v fs)
judge_with v fs (some i) = cond (sound v fs i) [] (drop_version v i fs)

unfoldable pub judge : List Found → ℕ → List Step
judge fs v = judge_with v fs (counting v fs)

-- "Of two sound versions of a key the older goes the same way": the version of group g with start 0, and with start 0x80
abbrev pub version_in : ℕ → ℕ → ℕ
version_in g start = (g / 2 ^ 128 * 256 + start) * 2 ^ 128 + g % 2 ^ 128

unfoldable pub sound_one : ℕ → List Found → Option Found → Bool
sound_one v fs none = false
sound_one v fs (some i) = sound v fs i

unfoldable pub both_sound : List Found → ℕ → ℕ → Bool
both_sound fs v w = sound_one v fs (counting v fs) && sound_one w fs (counting w fs)

unfoldable pub drop_counting : ℕ → List Found → Option Found → List Step
drop_counting v fs none = []
drop_counting v fs (some i) = drop_version v i fs

-- k is the newest index of the versions v and w: the other one is the older
unfoldable pub older_with : ℕ → ℕ → List Found → Option Found → List Step
older_with v w fs none = []
older_with v w fs (some k) = cond (eqb (version_of k.raw) v) (drop_counting w fs (counting w fs)) (drop_counting v fs (counting v fs))

unfoldable pub older : List Found → ℕ → List Step
older fs g =
    cond (both_sound fs (version_in g 0) (version_in g 0x80))
    (older_with (version_in g 0) (version_in g 0x80) fs
    (best newer (keep (λ (x : Found). index_of (version_in g 0) x.raw || index_of (version_in g 0x80) x.raw) fs)))
    []
