-- How the walk goes: by one where no item begins, else by the item's span, and never past entry 125. Assumes nothing.
use Rattle.std.specs.Prelude.{None, Some}
use mathlib.Core.Path.{◌≡◌, refl, sym, ap, ◌∙◌}
use mathlib.Core.Bool.{Bool, true, false, cond}
use mathlib.Core.List.{List, [], ◌∷◌}
use Prim.Native.Nat.{ℕ, zero, suc, ◌+◌, ◌*◌, ◌<◌, ◌≤◌}
use native.Mathlib.Omega.{arith}
use lib.Dec.{leb}
use borrow.Author.Tests.{leb-true}
use Rattle.word.proofs.Bytes.{part-byte}
use Rattle.entry.specs.Fields.{entry_at, span_of}
use Rattle.page.proofs.Tests.{both_first, both-second}
use Rattle.page.specs.declared.walk.ItemHeader.{ItemHeader}
use Rattle.page.specs.Walk.{readable, fits, is_item, Laid, laid_at, on_from, walk, header_of, reading_of}

module _ (t : List ℕ) where
  -- an item has a span, which ends on the page
  pub item_span : (i : ℕ) → is_item t i ≡ true → (1 ≤ span_of (entry_at t i)) × (i + span_of (entry_at t i) ≤ 126)
  unfolding is_item
  item_span i e =
      let n = span_of (entry_at t i) in
      let f : fits i n ≡ true = both-second (readable t i) (fits i n) e in
      (leb-true 1 n (both_first (leb 1 n) (leb (i + n) 126) f), leb-true (i + n) 126 (both-second (leb 1 n) (leb (i + n) 126) f))

  -- its bytes begin with that span
  pub raw-span : (i : ℕ) → is_item t i ≡ true → span_of (laid_at t i).raw ≡ span_of (entry_at t i)
  raw-span i here =
      let f = item_span i here in
      part-byte t (64 + i * 32) (span_of (entry_at t i) * 32) 2 (omega arith) ∙ sym (part-byte t (64 + i * 32) 32 2 (omega arith))

  -- nothing begins past entry 125
  pub past_end : (i : ℕ) → 126 ≤ i → is_item t i ≡ false
  past_end i h = go (is_item t i) refl
    where
      go : (b : Bool) → is_item t i ≡ b → is_item t i ≡ false
      go true e = let s = item_span i e in absurd (omega arith)
      go false e = e

  -- the walk goes on by one or more
  pub goes_on : (i : ℕ) → i < on_from t i
  goes_on i = go (is_item t i) refl
    where
      go : (b : Bool) → is_item t i ≡ b → i < cond b (i + span_of (entry_at t i)) (i + 1)
      go true e = let s = item_span i e in omega arith
      go false e = omega arith

  pub walk-past : (n i : ℕ) → 126 ≤ i → walk t n i ≡ []
  unfolding walk
  walk-past zero i h = refl
  walk-past (suc n) i h = rw (past_end i h) (walk-past n (i + 1) (omega arith))

  -- more turns than entries are left change nothing
  pub enough : (n m i : ℕ) → 126 ≤ i + n → 126 ≤ i + m → walk t n i ≡ walk t m i
  unfolding walk
  enough zero m i hn hm = sym (walk-past m i (omega arith))
  enough (suc n) zero i hn hm = walk-past (suc n) i (omega arith)
  enough (suc n) (suc m) i hn hm =
      let g = goes_on i in
      ap (λ (w : List Laid). cond (is_item t i) (laid_at t i ∷ w) w) (enough n m (on_from t i) (omega arith) (omega arith))

  -- a turn where an item begins, and one where none does
  turn_item : (n i : ℕ) → is_item t i ≡ true → walk t (suc n) i ≡ laid_at t i ∷ walk t n (i + span_of (entry_at t i))
  unfolding walk
  turn_item n i e = rw e

  turn_skip : (n i : ℕ) → is_item t i ≡ false → walk t (suc n) i ≡ walk t n (i + 1)
  unfolding walk
  turn_skip n i e = rw e

  pub walk_item : (i : ℕ) → is_item t i ≡ true → walk t 126 i ≡ laid_at t i ∷ walk t 126 (i + span_of (entry_at t i))
  walk_item i e =
      let s = item_span i e in
      turn_item 125 i e ∙ ap (λ (w : List Laid). laid_at t i ∷ w) (enough 125 126 (i + span_of (entry_at t i)) (omega arith) (omega arith))

  pub walk_skip : (i : ℕ) → is_item t i ≡ false → walk t 126 i ≡ walk t 126 (i + 1)
  walk_skip i e = turn_skip 125 i e ∙ enough 125 126 (i + 1) (omega arith) (omega arith)

  -- what a reading tells
  pub reading_none : (i : ℕ) → reading_of t i ≡ None → is_item t i ≡ false
  unfolding reading_of
  reading_none i e = go (is_item t i) refl e
    where
      go : (b : Bool) → is_item t i ≡ b → cond b (Some (header_of i (entry_at t i))) None ≡ None → is_item t i ≡ false
      go true q r = absurd (let z : ◌≡◌ {A = ℕ} 0 1 = cc in omega arith)
      go false q r = q

  pub reading_item : (i : ℕ) (h : ItemHeader) → reading_of t i ≡ Some h → (is_item t i ≡ true) × (h ≡ header_of i (entry_at t i))
  unfolding reading_of
  reading_item i h e = go (is_item t i) refl e
    where
      go : (b : Bool) → is_item t i ≡ b → cond b (Some (header_of i (entry_at t i))) None ≡ Some h → (is_item t i ≡ true) × (h ≡ header_of i (entry_at t i))
      go true q r = (q, cc)
      go false q r = absurd (let z : ◌≡◌ {A = ℕ} 0 1 = cc in omega arith)

  pub reading_span : (i : ℕ) (h : ItemHeader) → reading_of t i ≡ Some h → h.span ≡ span_of (entry_at t i)
  unfolding header_of
  reading_span i h e = ap (λ (x : ItemHeader). x.span) (reading_item i h e).1

  -- the walk meets nothing more, or an item at some entry, and goes on behind it
  pub data Ahead (i : ℕ) : Type 0 where
    done : walk t 126 i ≡ [] → Ahead i
    meets : (j : ℕ) → i ≤ j → is_item t j ≡ true → walk t 126 i ≡ laid_at t j ∷ walk t 126 (j + span_of (entry_at t j)) → Ahead i

  pub ahead : (n i : ℕ) → 126 ≤ i + n → Ahead i
  ahead zero i h = done (walk-past 126 i (omega arith))
  ahead (suc n) i h = go (is_item t i) refl (ahead n (i + 1) (omega arith))
    where
      later : walk t 126 i ≡ walk t 126 (i + 1) → Ahead (i + 1) → Ahead i
      later e (done w) = done (e ∙ w)
      later e (meets j l q w) = meets j (omega arith) q (e ∙ w)

      go : (b : Bool) → is_item t i ≡ b → Ahead (i + 1) → Ahead i
      go true e a = meets i (omega arith) e (walk_item i e)
      go false e a = later (walk_skip i e) a
