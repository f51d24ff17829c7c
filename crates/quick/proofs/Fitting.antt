-- What is tested of a part of a blob, as facts: both ways. Assumes nothing.
use mathlib.Core.Path.{◌≡◌, refl}
use mathlib.Core.Bool.{Bool, true, false, ◌||◌}
use mathlib.Core.List.{List}
use Prim.Native.Nat.{ℕ, ◌<◌, ◌≤◌}
use native.Mathlib.Omega.{arith}
use lib.Dec.{eqb, leb}
use lib.ListN.{length, get_or}
use borrow.Author.Tests.{eq-eqb, eqb-false, eqb-true, le-leb, leb-true, lt-ltb, ltb-true, ne_eqb}
use Rattle.entry.specs.Fields.{chunk_number, chunk_size, index_count, index_size}
use Rattle.page.proofs.Tests.{both_first, both_is, both-second}
use Rattle.lists.specs.Lists.{all_to, sum_to}
use Rattle.lists.proofs.Passing.{all_at, all_to_lem}
use Rattle.found.specs.Found.{chunk_of, group_of, index_of, is_chunk, is_index, version_of}
use Rattle.slots.specs.Names.{chunk_name}
use Rattle.slots.specs.Slots.{EachSlot, raw_at, told}
use Rattle.slots.specs.Named.{told_raw}
use Rattle.fits.specs.Fits.{all_fit, chunk_fits, has_chunk, index_fits, part_fits}
use Rattle.slots.proofs.Looking.{slot_in_lem}
use Rattle.quick.proofs.Versions.{index-not-chunk}

module _ (t l : List ℕ) where
  -- ---- a chunk
  abbrev pub ChunkFits : List ℕ → Type 0
  ChunkFits r = (1 ≤ told t l (group_of r)) × (index_of (version_of r) (told_raw t l (group_of r)) ≡ true) × (chunk_number r < index_count (told_raw t l (group_of r)))

  pub chunk_facts : (r : List ℕ) → chunk_fits t l r ≡ true → ChunkFits r
  unfolding chunk_fits
  chunk_facts r e =
      let f = both-second (leb 1 (told t l (group_of r))) _ e in
      (leb-true 1 _ (both_first _ _ e), both_first _ _ f, ltb-true _ _ (both-second (index_of (version_of r) (told_raw t l (group_of r))) _ f))

  pub chunk-fits : (r : List ℕ) → ChunkFits r → chunk_fits t l r ≡ true
  unfolding chunk_fits
  chunk-fits r h = both_is _ _ (le-leb 1 _ h.0) (both_is _ _ h.1 (lt-ltb _ _ h.2))

  -- ---- chunk number n of version v
  abbrev pub HasChunk : ℕ → ℕ → Type 0
  HasChunk v n = (1 ≤ told t l (chunk_name v n)) × (chunk_of v (told_raw t l (chunk_name v n)) ≡ true)

  pub has_facts : (v n : ℕ) → has_chunk t l v n ≡ true → HasChunk v n
  unfolding has_chunk
  has_facts v n e = (leb-true 1 _ (both_first _ _ e), both-second (leb 1 (told t l (chunk_name v n))) _ e)

  pub has-chunk : (v n : ℕ) → HasChunk v n → has_chunk t l v n ≡ true
  unfolding has_chunk
  has-chunk v n h = both_is _ _ (le-leb 1 _ h.0) h.1

  -- ---- an index
  abbrev pub IndexFits : List ℕ → Type 0
  IndexFits r = ((n : ℕ) → n < index_count r → HasChunk (version_of r) n) × (sum_to (λ n. chunk_size (told_raw t l (chunk_name (version_of r) n))) (index_count r) ≡ index_size r)

  pub index_facts : (r : List ℕ) → index_fits t l r ≡ true → IndexFits r
  unfolding index_fits
  index_facts r e =
      (λ n h. has_facts (version_of r) n (all_at (has_chunk t l (version_of r)) (index_count r) (both_first _ _ e) n h), eqb-true _ (index_size r) (both-second (all_to (has_chunk t l (version_of r)) (index_count r)) _ e))

  pub index-fits : (r : List ℕ) → IndexFits r → index_fits t l r ≡ true
  unfolding index_fits
  index-fits r h = both_is _ _ (all_to_lem (has_chunk t l (version_of r)) (index_count r) (λ n k. has-chunk (version_of r) n (h.0 n k))) (eq-eqb _ (index_size r) h.1)

  -- ---- a part
  pub part-chunk : (r : List ℕ) → is_chunk r ≡ true → part_fits t l r ≡ chunk_fits t l r
  unfolding part_fits
  part-chunk r e = rw e

  pub part-index : (r : List ℕ) → is_index r ≡ true → part_fits t l r ≡ index_fits t l r
  unfolding part_fits
  part-index r e = rw (index-not-chunk r e, e)

  pub part-fits : (r : List ℕ) → (is_chunk r ≡ true → chunk_fits t l r ≡ true) → (is_index r ≡ true → index_fits t l r ≡ true) → part_fits t l r ≡ true
  part-fits r f g = go (is_chunk r) refl (is_index r) refl
    where
      go : (a : Bool) → is_chunk r ≡ a → (b : Bool) → is_index r ≡ b → part_fits t l r ≡ true
      go true p b q = rw (part-chunk r p) (f p)
      go false p true q = rw (part-index r q) (g q)
      go false p false q = unfold part_fits in rw (p, q)

  -- ---- the items of the table
  pub all_facts : all_fit t l ≡ true → EachSlot (λ (p : ℕ). part_fits t l (raw_at l p) ≡ true) t
  unfolding all_fit
  all_facts e i h =
      let o = all_at (λ (j : ℕ). eqb (get_or t j 0) 0 || part_fits t l (raw_at l (get_or t j 0))) (length t) e i (slot_in_lem t i h) in
      rw (ne_eqb (get_or t i 0) 0 (λ z. omega arith)) at o

  pub all_fit_lem : EachSlot (λ (p : ℕ). part_fits t l (raw_at l p) ≡ true) t → all_fit t l ≡ true
  unfolding all_fit
  all_fit_lem each = all_to_lem (λ (j : ℕ). eqb (get_or t j 0) 0 || part_fits t l (raw_at l (get_or t j 0))) (length t) (λ i h. go i (eqb (get_or t i 0) 0) refl)
    where
      go : (i : ℕ) (b : Bool) → eqb (get_or t i 0) 0 ≡ b → (b || part_fits t l (raw_at l (get_or t i 0))) ≡ true
      go i true q = refl
      go i false q = let z = eqb-false (get_or t i 0) 0 q in each i (omega arith)
