-- Document 02, No. 7: "Recovery, the item reader and the listing must agree on it." Wherever its calls have brought a reader, what it has counted and what is
-- unread ahead of it are the record's count; so when no item is left it says the record's. Its bound of 126 is never met. Assumes nothing.
use mathlib.Core.Path.{◌≡◌, refl, sym, ap, ◌∙◌}
use mathlib.Core.Bool.{Bool, true, false, cond}
use mathlib.Core.List.{List, [], ◌∷◌}
use Prim.Native.Nat.{ℕ, zero, suc, ◌+◌, ◌-◌, ◌≤◌}
use native.Mathlib.Omega.{arith}
use borrow.Author.Tests.{eq-eqb, le-leb}
use lib.ListN.{length}
use denote.Ref.{Bor}
use Rattle.page.specs.State.{state_of, is_free}
use Rattle.page.specs.Walk.{Laid, items_of, walk}
use Rattle.page.specs.Unread.{unread_from, unread_of, passed_from}
use Rattle.page.specs.Record.{record_of}
use Rattle.page.proofs.Walking.{raw-span, walk-past, Ahead, done, meets, ahead}
use Rattle.page.proofs.Items.{walk_most}
use Rattle.page.proofs.Unread.{unread-past}
use Rattle.page.proofs.Split.{unread_most}
use Rattle.page.proofs.Passed.{passed_to_end, passed_to_item}
use Rattle.reading.specs.declared.Read.{Read}
use Rattle.reading.specs.declared.Handed.{Handed}
use Rattle.reading.specs.declared.Handed.TheVariants.{End}
use Rattle.reading.specs.Reading.{counted_on, read_of, read_on, has_none, begins_at}
use Rattle.reader.specs.Reader.{read_next, reader_after}
use Rattle.reader.proofs.Begins.{begins_end, begins_first}
use Rattle.reader.proofs.HandedOut.{read_walks, begun}

-- below the bound the count is the sum
exact : (u p : ℕ) → u + p ≤ 126 → counted_on u p ≡ u + p
unfolding counted_on
exact u p h = rw (le-leb (u + p) 126 h)

-- one call, from place e and count u on
module _ (t : List ℕ) (whole : length t ≡ 4096) (e u : ℕ) where
  -- it counts what it passes over, and no more
  counts_on : u + unread_from t 126 e ≤ 126 → let r = read_on t e u in r.unread + unread_from t 126 r.next ≡ u + unread_from t 126 e
  unfolding read_of
  counts_on h = go (ahead t 126 e (omega arith))
    where
      go : Ahead t e → let r = read_on t e u in r.unread + unread_from t 126 r.next ≡ u + unread_from t 126 e
      go (done w) =
          let a = passed_to_end t e w in
          let c = exact u (passed_from t 126 e) (omega arith) in
          let z = unread-past t 126 126 (omega arith) in
          rw (read_walks t whole e u, w) (omega arith)
      go (meets j l q w) =
          let a = passed_to_item t e j q w in
          let c = exact u (passed_from t 126 e) (omega arith) in
          rw (read_walks t whole e u, w, raw-span t j q) (omega arith)

  -- where no item is left it says the count with all that was ahead
  ends_with : u + unread_from t 126 e ≤ 126 → walk t 126 e ≡ [] → (read_on t e u).handed ≡ End (u + unread_from t 126 e)
  unfolding read_of
  ends_with h w =
      let a = passed_to_end t e w in
      let c : counted_on u (passed_from t 126 e) ≡ u + unread_from t 126 e = exact u (passed_from t 126 e) (omega arith) ∙ omega arith in
      rw (read_walks t whole e u, w, c)

  -- and it says no count where an item is left
  ends_only : (k : ℕ) → (read_on t e u).handed ≡ End k → walk t 126 e ≡ []
  unfolding read_of
  ends_only k q = go (walk t 126 e) refl
    where
      go : (xs : List Laid) → walk t 126 e ≡ xs → walk t 126 e ≡ []
      go [] w = w
      go (x ∷ xs) w =
          let p : (read_of (counted_on u (passed_from t 126 e)) (x ∷ xs)).handed ≡ End k = sym (ap (λ (r : Read). r.handed) (read_walks t whole e u ∙ ap (read_of _) w)) ∙ q in
          absurd (let z : ◌≡◌ {A = ℕ} 0 1 = cc in omega arith)

  -- an item less is left
  one_less : length (walk t 126 (read_on t e u).next) ≡ length (walk t 126 e) - 1
  unfolding read_of
  one_less = go (ahead t 126 e (omega arith))
    where
      go : Ahead t e → length (walk t 126 (read_on t e u).next) ≡ length (walk t 126 e) - 1
      go (done w) = rw (read_walks t whole e u, w, walk-past t 126 126 (omega arith))
      go (meets j l q w) = rw (read_walks t whole e u, w, raw-span t j q) (omega arith)

-- a reader keeps its sector
keeps : (s : Bor (List ℕ)) (n : ℕ) → (reader_after s n).sector ≡ s
unfolding reader_after
keeps s zero = refl
keeps s (suc n) = keeps s n

-- a new reader of a sector of 4,096 bytes, after n calls
module _ (s : Bor (List ℕ)) (whole : length s.now ≡ 4096) where
  abbrev recorded : ℕ
  recorded = (record_of s.now).unread

  most : recorded ≤ 126
  unfolding record_of unread_of
  most = go (is_free (state_of s.now)) refl
    where
      go : (b : Bool) → is_free (state_of s.now) ≡ b → recorded ≤ 126
      go true e = rw e (omega arith)
      go false e = rw e (unread_most s.now)

  reads : (n : ℕ) → let r = reader_after s n in read_next r ≡ read_on s.now r.entry r.unread
  reads n = let r = reader_after s n in ap (λ (x : Bor (List ℕ)). read_on x.now r.entry r.unread) (keeps s n)

  first : unread_from s.now 126 (begins_at s.now) ≡ recorded
  unfolding record_of unread_of has_none
  first = go (is_free (state_of s.now)) refl
    where
      go : (b : Bool) → is_free (state_of s.now) ≡ b → unread_from s.now 126 (begins_at s.now) ≡ recorded
      go true e =
          let h : has_none s.now ≡ true = rw (eq-eqb _ _ whole, e) in
          rw (begins_end s.now h, e) (unread-past s.now 126 126 (omega arith))
      go false e =
          let h : has_none s.now ≡ false = rw (eq-eqb _ _ whole, e) in
          rw (begins_first s.now h, e)

  -- its count and what is unread from its place on are the record's count
  pub counted-so-far : (n : ℕ) → let r = reader_after s n in r.unread + unread_from s.now 126 r.entry ≡ (record_of s.now).unread
  unfolding reader_after
  counted-so-far zero = let a = first in omega arith
  counted-so-far (suc n) =
      let r = reader_after s n in
      let m = most in
      let a = counted-so-far n in
      let b = counts_on s.now whole r.entry r.unread (omega arith) in
      rw (reads n) (b ∙ a)

  -- each call leaves an item less, until none is left
  left : (n : ℕ) → length (walk s.now 126 (reader_after s n).entry) ≡ length (items_of s.now) - n
  unfolding reader_after
  left zero = ap length (begun s.now whole) ∙ omega arith
  left (suc n) =
      let r = reader_after s n in
      let a = left n in
      let b = one_less s.now whole r.entry r.unread in
      rw (reads n) (b ∙ omega arith)

  -- whenever it says that no item is left, it says the record's count
  pub said_at_end : (n k : ℕ) → (read_next (reader_after s n)).handed ≡ End k → k ≡ (record_of s.now).unread
  said_at_end n k q =
      let r = reader_after s n in
      let m = most in
      let a = counted-so-far n in
      let t : (read_on s.now r.entry r.unread).handed ≡ End k = ap (λ (x : Read). x.handed) (sym (reads n)) ∙ q in
      let w = ends_only s.now whole r.entry r.unread k t in
      let z = ends_with s.now whole r.entry r.unread (omega arith) w in
      said (sym t ∙ z) ∙ a
    where
      said : {x y : ℕ} → ◌≡◌ {A = Handed} (End x) (End y) → x ≡ y
      said p = cc

  -- and it says so once its items are handed out, and from then on each time it is asked
  pub passed_all : (n : ℕ) → length (items_of s.now) ≤ n → (read_next (reader_after s n)).handed ≡ End (record_of s.now).unread
  passed_all n h =
      let r = reader_after s n in
      let m = most in
      let a = counted-so-far n in
      let b = left n in
      let w = none_left (walk s.now 126 r.entry) (omega arith) in
      ap (λ (x : Read). x.handed) (reads n) ∙ ends_with s.now whole r.entry r.unread (omega arith) w ∙ ap End a
    where
      none_left : (xs : List Laid) → length xs ≡ 0 → xs ≡ []
      none_left [] e = refl
      none_left (x ∷ xs) e = absurd (omega arith)

  -- so it is after 126 calls at the latest: a page has no more items
  items_most : length (items_of s.now) ≤ 126
  unfolding items_of
  items_most = go (is_free (state_of s.now))
    where
      go : (b : Bool) → length (cond b [] (walk s.now 126 0)) ≤ 126
      go true = omega arith
      go false = walk_most s.now 126 0

  pub passed_in_time : (n : ℕ) → 126 ≤ n → (read_next (reader_after s n)).handed ≡ End (record_of s.now).unread
  passed_in_time n h = let a = items_most in passed_all n (omega arith)
