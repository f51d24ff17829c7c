-- Bridge: what is tested of each part of a blob, by what the table leads to. Assumes nothing.
use Rattle.std.specs.Prelude.{Bool, true, cond, ◌&&◌, ◌||◌, List, ℕ, eqb, leb, ltb, length, get_or}
use Rattle.entry.specs.Fields.{chunk_number, chunk_size, index_count, index_size}
use Rattle.lists.specs.Lists.{all_to, sum_to}
use Rattle.found.specs.Found.{is_chunk, is_index, version_of, group_of, index_of, chunk_of}
use Rattle.slots.specs.Names.{chunk_name}
use Rattle.slots.specs.Slots.{raw_at, told}
use Rattle.slots.specs.Named.{told_raw}

module _ (t l : List ℕ) where
  -- a chunk's namespace and key lead to an index of its version, which counts it
  unfoldable pub chunk_fits : List ℕ → Bool
  chunk_fits r = leb 1 (told t l (group_of r)) && (index_of (version_of r) (told_raw t l (group_of r)) && ltb (chunk_number r) (index_count (told_raw t l (group_of r))))

  -- chunk number n of version v is there
  unfoldable pub has_chunk : ℕ → ℕ → Bool
  has_chunk v n = leb 1 (told t l (chunk_name v n)) && chunk_of v (told_raw t l (chunk_name v n))

  -- an index has each chunk that it counts, and their sizes sum up to its own
  unfoldable pub index_fits : List ℕ → Bool
  index_fits r =
      all_to (has_chunk (version_of r)) (index_count r)
      && eqb (sum_to (λ n. chunk_size (told_raw t l (chunk_name (version_of r) n))) (index_count r)) (index_size r)

  -- a part of a blob fits with the others
  unfoldable pub part_fits : List ℕ → Bool
  part_fits r = cond (is_chunk r) (chunk_fits r) (cond (is_index r) (index_fits r) true)

  -- each item in the table fits
  unfoldable pub all_fit : Bool
  all_fit = all_to (λ (i : ℕ). eqb (get_or t i 0) 0 || part_fits (raw_at l (get_or t i 0))) (length t)
