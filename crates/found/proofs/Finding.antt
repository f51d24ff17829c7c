-- The items found are those at their places: the walk gives each its entry, and a page of the list its sector and sequence. Assumes nothing.
use mathlib.Core.Path.{◌≡◌, refl, sym, ap, ap₂, ◌∙◌}
use mathlib.Core.Bool.{Bool, true, false, cond}
use mathlib.Core.List.{List, [], ◌∷◌, ◌++◌, map, map-append, flat_map}
use Prim.Native.Nat.{ℕ, zero, suc, ◌+◌, ◌-◌, ◌*◌, ◌/◌, ◌%◌, ◌≤◌}
use native.Mathlib.Omega.{arith}
use Rattle.word.specs.Number.{part}
use Rattle.word.proofs.Bytes.{part-part}
use Rattle.entry.specs.Fields.{entry_at, span_of}
use Rattle.flash.specs.Step.{sector}
use Rattle.page.specs.Walk.{Laid, is_item, laid_at, on_from, walk}
use Rattle.page.proofs.Walking.{item_span}
use Rattle.table.specs.declared.Page.{Page}
use Rattle.table.specs.Table.{items_in, sequence}
use Rattle.found.specs.Found.{Found, found, found_on}
use Rattle.found.specs.Places.{place_of, item_at, items_at, Lies, Placed}
use Rattle.lists.specs.Each.{Each}
use Rattle.lists.proofs.Each.{each_append}

-- an item of the page, with its page
abbrev pub found_as : Page → Laid → Found
found_as p x = record { sector = p.sector; sequence = sequence p; entry = x.entry; raw = x.raw }

module _ (l : List ℕ) (p : Page) (lies : Lies l p) where
  abbrev t : List ℕ
  t = sector p.sector l

  -- the bytes of an item from entry i on
  bytes_at : (i n : ℕ) → i + n ≤ 126 → part l ((p.sector * 128 + 2 + i) * 32) (n * 32) ≡ part t (64 + i * 32) (n * 32)
  unfolding sector
  bytes_at i n h =
      let e : (p.sector * 128 + 2 + i) * 32 ≡ p.sector * 4096 + (64 + i * 32) = omega arith in
      rw e (sym (part-part l (p.sector * 4096) 4096 (64 + i * 32) (n * 32) (omega arith)))

  header_at : (i : ℕ) → i + 1 ≤ 126 → part l ((p.sector * 128 + 2 + i) * 32) 32 ≡ entry_at t i
  header_at i h = bytes_at i 1 h

  item_laid : (i : ℕ) → is_item t i ≡ true → item_at l (p.sector * 128 + 2 + i) ≡ found_as p (laid_at t i)
  unfolding item_at
  item_laid i e =
      let s = item_span t i e in
      let a : (p.sector * 128 + 2 + i) / 128 ≡ p.sector = omega arith in
      let b : (p.sector * 128 + 2 + i) % 128 - 2 ≡ i = omega arith in
      rw (header_at i (omega arith), bytes_at i (span_of (entry_at t i)) (omega arith), a, b, lies.told)

  placed_laid : (i : ℕ) → is_item t i ≡ true → Placed l (p.sector * 128 + 2 + i)
  placed_laid i e =
      let s = item_span t i e in
      let a : (p.sector * 128 + 2 + i) % 128 ≡ 2 + i = omega arith in
      let h = header_at i (omega arith) in
      record { entries = omega arith; some = rw h s.0; ends = rw (h, a) (omega arith); room = omega (arith, lies.room) }

  walk-items : (n i : ℕ) → items_at l (map place_of (map (found_as p) (walk t n i))) ≡ map (found_as p) (walk t n i)
  unfolding walk
  walk-items zero i = refl
  walk-items (suc n) i = go (is_item t i) refl (on_from t i) (walk-items n (on_from t i))
    where
      go : (b : Bool) → is_item t i ≡ b → (j : ℕ) → items_at l (map place_of (map (found_as p) (walk t n j))) ≡ map (found_as p) (walk t n j)
          → items_at l (map place_of (map (found_as p) (cond b (laid_at t i ∷ walk t n j) (walk t n j)))) ≡ map (found_as p) (cond b (laid_at t i ∷ walk t n j) (walk t n j))
      go true e j ih = ap₂ {C = List Found} (λ (x : Found) (xs : List Found). x ∷ xs) (item_laid i e) ih
      go false e j ih = ih

  walk_placed : (n i : ℕ) → Each (Placed l) (map place_of (map (found_as p) (walk t n i)))
  unfolding walk Each
  walk_placed zero i = tt
  walk_placed (suc n) i = go (is_item t i) refl (on_from t i) (walk_placed n (on_from t i))
    where
      go : (b : Bool) → is_item t i ≡ b → (j : ℕ) → Each (Placed l) (map place_of (map (found_as p) (walk t n j)))
          → Each (Placed l) (map place_of (map (found_as p) (cond b (laid_at t i ∷ walk t n j) (walk t n j))))
      go true e j ih = (placed_laid i e, ih)
      go false e j ih = ih

module _ (l : List ℕ) where
  pub items_found : (ps : List Page) → Each (Lies l) ps → items_at l (map place_of (found ps l)) ≡ found ps l
  unfolding found flat_map Each found_on items_in
  items_found [] h = refl
  items_found (p ∷ ps) h =
      ap (map (item_at l)) (map-append place_of (found_on l p) (found ps l))
      ∙ map-append (item_at l) (map place_of (found_on l p)) (map place_of (found ps l))
      ∙ ap₂ (λ (a b : List Found). a ++ b) (walk-items l p h.0 126 0) (items_found ps h.1)

  pub found_placed : (ps : List Page) → Each (Lies l) ps → Each (Placed l) (map place_of (found ps l))
  unfolding found flat_map Each found_on items_in
  found_placed [] h = tt
  found_placed (p ∷ ps) h =
      rw (map-append place_of (found_on l p) (found ps l))
      (each_append (Placed l) (map place_of (found_on l p)) (map place_of (found ps l)) (walk_placed l p h.0 126 0) (found_placed ps h.1))
