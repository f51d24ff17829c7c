-- An erasure changes entry states alone, so each item stands where it stood and says what it said. Assumes nothing.
use mathlib.Core.Path.{◌≡◌, refl, ap, ◌∙◌}
use mathlib.Core.Logic.{◌⊎◌, inl, inr, ⊎_elim}
use mathlib.Core.List.{List, [], ◌∷◌}
use Prim.Native.Nat.{ℕ, ◌+◌, ◌*◌, ◌/◌, ◌%◌, ◌<◌, ◌≤◌}
use native.Mathlib.Omega.{arith}
use lib.ListN.{length, get_or, take}
use Rattle.word.specs.Number.{part}
use Rattle.entry.specs.Fields.{span_of}
use Rattle.flash.specs.Did.{Did, Ran}
use Rattle.flash.proofs.Order.{le-or-gt}
use Rattle.flash.proofs.Every.{every_take}
use Rattle.flash.proofs.Frame.{In, Outside, length_run, part_same, run-other}
use Rattle.item.specs.Erase.{erasing}
use Rattle.marking.proofs.Spans.{unmarking_in}
use Rattle.found.specs.Places.{item_at, items_at, Placed, Alike}
use Rattle.lists.specs.Each.{Each}
use Rattle.found.proofs.Lying.{sequence_same}

pub alike_refl : (l : List ℕ) → Alike l l
alike_refl l = record { size = refl; same = λ j o. refl }

pub alike_trans : {l m k : List ℕ} → Alike l m → Alike m k → Alike l k
alike_trans a b = record { size = b.size ∙ a.size; same = λ j o. b.same j o ∙ a.same j o }

-- a byte that is no entry state lies outside the entry states of sector s
beside : (s j : ℕ) → (j % 4096 < 32) ⊎ (64 ≤ j % 4096) → Outside (s * 4096 + 32) (s * 4096 + 64) j
beside s j o = go (le-or-gt (s * 4096 + 32) j) (le-or-gt (s * 4096 + 64) j)
  where
    go : (s * 4096 + 32 ≤ j) ⊎ (j < s * 4096 + 32) → (s * 4096 + 64 ≤ j) ⊎ (j < s * 4096 + 64) → Outside (s * 4096 + 32) (s * 4096 + 64) j
    go (inr h) k = inl h
    go (inl h) (inl k) = inr k
    go (inl h) (inr k) = absurd (⊎_elim (λ g. omega arith) (λ g. omega arith) o)

pub erasing-alike : {k : ℕ} {l m : List ℕ} {r : Ran} (s i n : ℕ) → i + n ≤ 126 → Did (erasing s i n) k l m r → Alike l m
unfolding erasing
erasing-alike {k} {l} s i n h d =
    record {
      size = ap length d.image ∙ length_run (take k (erasing s i n)) l;
      same = λ j o.
          ap (λ (x : List ℕ). get_or x j 0) d.image
          ∙ run-other (s * 4096 + 32) (s * 4096 + 64) (take k (erasing s i n)) l j
          (every_take (In (s * 4096 + 32) (s * 4096 + 64)) k (erasing s i n) (unmarking_in (s * 4096) i n h)) (beside s j o);
    }

module _ (l m : List ℕ) (like : Alike l m) where
  part-alike : (a n : ℕ) → ((j : ℕ) → a ≤ j → j < a + n → (j % 4096 < 32) ⊎ (64 ≤ j % 4096)) → part m a n ≡ part l a n
  part-alike a n f = part_same a n l m like.size (λ j g h. like.same j (f j g h))

  head-alike : (p : ℕ) → 2 ≤ p % 128 → part m (p * 32) 32 ≡ part l (p * 32) 32
  head-alike p h = part-alike (p * 32) 32 (λ j a b. inr (omega arith))

  pub item_alike : (p : ℕ) → Placed l p → item_at m p ≡ item_at l p
  unfolding item_at
  item_alike p h =
      let head = head-alike p h.entries in
      let n = span_of (part l (p * 32) 32) in
      let raw : part m (p * 32) (n * 32) ≡ part l (p * 32) (n * 32) = part-alike (p * 32) (n * 32) (λ j a b. inr (omega (arith, h.entries, h.ends))) in
      rw (head, raw, sequence_same l m like.size (λ j a b. like.same j (inl (omega arith))) (p / 128))

  pub placed_alike : (p : ℕ) → Placed l p → Placed m p
  placed_alike p h =
      let head = head-alike p h.entries in
      let size = like.size in
      record { entries = h.entries; some = rw head h.some; ends = rw head h.ends; room = rw size h.room }

  pub items_alike : (ps : List ℕ) → Each (Placed l) ps → items_at m ps ≡ items_at l ps
  unfolding Each
  items_alike [] h = refl
  items_alike (p ∷ ps) h = rw (item_alike p h.0, items_alike ps h.1)

  pub each-alike : (ps : List ℕ) → Each (Placed l) ps → Each (Placed m) ps
  unfolding Each
  each-alike [] h = tt
  each-alike (p ∷ ps) h = (placed_alike p h.0, each-alike ps h.1)
