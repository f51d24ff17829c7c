-- The places of the items that the walk meets, a turn at a time. Assumes nothing.
use mathlib.Core.Path.{◌≡◌, sym, ap}
use mathlib.Core.Bool.{true, false}
use mathlib.Core.List.{List, [], ◌∷◌, ◌++◌, map, append_assoc}
use Prim.Native.Nat.{ℕ, ◌+◌, ◌<◌, ◌≤◌}
use native.Mathlib.Numerals.{add-one}
use lib.ListN.{length, take, set}
use lib.Seq.{take-suc-set}
use Rattle.entry.specs.Fields.{entry_at, span_of}
use Rattle.page.specs.Walk.{is_item, Laid, walk}
use Rattle.page.proofs.Walking.{walk-past, walk_item, walk_skip}

module _ (t : List ℕ) (base : ℕ) where
  abbrev pub places_from : ℕ → List ℕ
  places_from i = map (λ (x : Laid). base + x.entry) (walk t 126 i)

  pub place_more : (i : ℕ) → is_item t i ≡ true → (out : List ℕ) (k : ℕ) → k < length out
      → take (k + 1) (set out k (base + i)) ++ places_from (i + span_of (entry_at t i)) ≡ take k out ++ places_from i
  place_more i e out k h =
      let turn : places_from i ≡ (base + i) ∷ places_from (i + span_of (entry_at t i)) = ap (map (λ (x : Laid). base + x.entry)) (walk_item t i e) in
      rw (add-one, take-suc-set, append_assoc, turn)

  pub place_same : (i : ℕ) → is_item t i ≡ false → places_from (i + 1) ≡ places_from i
  place_same i e = sym (ap (map (λ (x : Laid). base + x.entry)) (walk_skip t i e))

  pub place_end : (i : ℕ) → 126 ≤ i → places_from i ≡ []
  place_end i h = ap (map (λ (x : Laid). base + x.entry)) (walk-past t 126 i h)
