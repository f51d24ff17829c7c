-- A turn of the loop that copies: the walk's next item stands in the image where the walk met it, since the source stays as it was. Assumes nothing.
use Rattle.std.specs.Prelude.{Some}
use mathlib.Core.Path.{◌≡◌, sym, ap, ◌∙◌}
use mathlib.Core.Bool.{true, false}
use mathlib.Core.List.{List, [], ◌++◌}
use Prim.Native.Nat.{ℕ, ◌+◌, ◌*◌, ◌≤◌}
use native.Mathlib.Omega.{arith}
use Rattle.word.specs.Number.{part}
use Rattle.word.proofs.Bytes.{part-part}
use Rattle.entry.specs.Fields.{entry_at, span_of}
use Rattle.page.specs.declared.walk.ItemHeader.{ItemHeader}
use Rattle.page.specs.Walk.{is_item, reading_of, walk}
use Rattle.page.proofs.Walking.{item_span, raw-span, reading_item, reading_span, walk_item, walk_skip, walk-past}
use Rattle.flash.specs.Step.{sector}
use Rattle.item.specs.Copy.{copying}
use Rattle.relocate.specs.Move.{copies}

-- the walk goes over the bytes t, of which the image l has the same in sector s
module _ (s : ℕ) (l t : List ℕ) (same : sector s l ≡ t) (i n : ℕ) (here : is_item t i ≡ true) (span : n ≡ span_of (entry_at t i)) where
  -- the item's bytes
  raw_at : part t (64 + i * 32) (n * 32) ≡ part l (s * 4096 + 64 + i * 32) (n * 32)
  unfolding sector
  raw_at =
      let f = item_span t i here in
      let e : s * 4096 + (64 + i * 32) ≡ s * 4096 + 64 + i * 32 = omega arith in
      rw (← same, ← e) (part-part l (s * 4096) 4096 (64 + i * 32) (n * 32) (omega arith))

  pub turn-span : span_of (part l (s * 4096 + 64 + i * 32) (n * 32)) ≡ n
  turn-span = ap span_of (sym raw_at) ∙ rw span (raw-span t i here)

  pub turn_item : (base j : ℕ) → copies base j (walk t 126 i) ≡ copying base j (part l (s * 4096 + 64 + i * 32) (n * 32)) ++ copies base (j + n) (walk t 126 (i + n))
  unfolding copies
  turn_item base j = rw (walk_item t i here, raw-span t i here, ← span, raw_at)

-- what the reading of an item says: it is one, and its span, which is not 0, ends on the page
pub met : (t : List ℕ) (i : ℕ) (h : ItemHeader) → reading_of t i ≡ Some h → (is_item t i ≡ true) × (h.span ≡ span_of (entry_at t i)) × (1 ≤ h.span) × (i + h.span ≤ 126)
met t i h q =
    let e = (reading_item t i h q).0 in
    let n = reading_span t i h q in
    let f = item_span t i e in
    (e, n, omega arith, omega arith)

module _ (t : List ℕ) (base j i : ℕ) where
  pub turn_skip : is_item t i ≡ false → copies base j (walk t 126 i) ≡ copies base j (walk t 126 (i + 1))
  turn_skip h = ap (copies base j) (walk_skip t i h)

  pub turn_end : 126 ≤ i → copies base j (walk t 126 i) ≡ []
  unfolding copies
  turn_end h = rw (walk-past t 126 i h)
