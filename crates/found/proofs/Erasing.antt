-- A version's chunks are erased place by place. Assumes nothing.
use mathlib.Core.Path.{◌≡◌, ap, ◌∙◌}
use mathlib.Core.Bool.{true, false}
use mathlib.Core.List.{List, [], ◌∷◌, ◌++◌, flat_map}
use Prim.Native.Nat.{ℕ, ◌+◌, ◌<◌, ◌≤◌}
use lib.ListN.{length, get_or, drop}
use Rattle.entry.specs.Fields.{span_of}
use Rattle.flash.specs.Step.{Step}
use Rattle.item.specs.Erase.{erasing}
use Rattle.lists.specs.Lists.{keep}
use Rattle.found.specs.Found.{Found, chunk_of, chunks, erase_all}
use Rattle.found.specs.Places.{item_at, items_at}
use Rattle.found.proofs.Reading.{items_more, items_end}

abbrev pub chunks_at : ℕ → List ℕ → List ℕ → List Step
chunks_at v l ps = erase_all (chunks v (items_at l ps))

module _ (v : ℕ) where
  taken : (x : Found) (xs : List Found) → chunk_of v x.raw ≡ true → erase_all (chunks v (x ∷ xs)) ≡ erasing x.sector x.entry (span_of x.raw) ++ erase_all (chunks v xs)
  unfolding keep erase_all flat_map
  taken x xs e = rw e

  passed : (x : Found) (xs : List Found) → chunk_of v x.raw ≡ false → erase_all (chunks v (x ∷ xs)) ≡ erase_all (chunks v xs)
  unfolding keep erase_all flat_map
  passed x xs e = rw e

  module _ (l ps : List ℕ) (i : ℕ) where
    pub chunk_more : i < length ps → chunk_of v (item_at l (get_or ps i 0)).raw ≡ true
        → chunks_at v l (drop i ps) ≡ erasing (item_at l (get_or ps i 0)).sector (item_at l (get_or ps i 0)).entry (span_of (item_at l (get_or ps i 0)).raw) ++ chunks_at v l (drop (i + 1) ps)
    chunk_more h e = ap (λ (xs : List Found). erase_all (chunks v xs)) (items_more l ps i h) ∙ taken (item_at l (get_or ps i 0)) (items_at l (drop (i + 1) ps)) e

    pub chunk-not : i < length ps → chunk_of v (item_at l (get_or ps i 0)).raw ≡ false → chunks_at v l (drop i ps) ≡ chunks_at v l (drop (i + 1) ps)
    chunk-not h e = ap (λ (xs : List Found). erase_all (chunks v xs)) (items_more l ps i h) ∙ passed (item_at l (get_or ps i 0)) (items_at l (drop (i + 1) ps)) e

    pub chunks_end : length ps ≤ i → chunks_at v l (drop i ps) ≡ []
    unfolding keep erase_all flat_map
    chunks_end h = ap (λ (xs : List Found). erase_all (chunks v xs)) (items_end l ps i h)
