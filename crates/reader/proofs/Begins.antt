-- A Blank or Corrupt sector has no item at any place; and a reader, which judges its sector once, where it begins, hands out at each of its places what
-- is there for one who asks at that place alone. Assumes nothing.
use mathlib.Core.Path.{◌≡◌, refl, sym, ap, ◌∙◌}
use mathlib.Core.Bool.{Bool, true, false}
use mathlib.Core.List.{List, []}
use Prim.Native.Nat.{ℕ, zero, suc, ◌≤◌}
use native.Mathlib.Omega.{arith}
use borrow.Author.Tests.{eq-eqb, eqb-true}
use lib.Dec.{eqb}
use lib.ListN.{length}
use denote.Ref.{Bor}
use Rattle.page.specs.State.{all_ones, state_of, is_free}
use Rattle.page.proofs.Tests.{both_first}
use Rattle.page.proofs.Passed.{passed-past}
use Rattle.reading.specs.declared.Read.{Read}
use Rattle.reading.specs.Reading.{counted_on, read_of, read_on, has_none, begins_at}
use Rattle.reader.specs.Reader.{read_from, read_next, reader_after}
use Rattle.reading.proofs.Told.{read_end}

module _ (s : List ℕ) where
  -- where the sector has no item
  none_whole : has_none s ≡ true → length s ≡ 4096
  unfolding has_none
  none_whole h = eqb-true _ _ (both_first (eqb (length s) 4096) (is_free (state_of s)) h)

  pub none_there : has_none s ≡ true → (e u : ℕ) → read_from s e u ≡ read_of (counted_on u 0) []
  unfolding read_from
  none_there h e u = rw h

  pub begins_end : has_none s ≡ true → begins_at s ≡ 126
  unfolding begins_at
  begins_end h = rw h

  -- where it may have some
  pub some_there : has_none s ≡ false → (e u : ℕ) → read_from s e u ≡ read_on s e u
  unfolding read_from
  some_there h e u = rw h

  pub begins_first : has_none s ≡ false → begins_at s ≡ 0
  unfolding begins_at
  begins_first h = rw h

  -- from the end on nothing is handed out and nothing counted, however often one asks
  pub end_there : length s ≡ 4096 → (e u : ℕ) → 126 ≤ e → read_on s e u ≡ read_of (counted_on u 0) []
  unfolding read_on
  end_there w e u h = rw (eq-eqb _ _ w, passed-past s 126 e h) (read_end s e (counted_on u 0) h)

  -- "A Blank or Corrupt sector has none.": at every place
  pub none_free : length s ≡ 4096 → is_free (state_of s) ≡ true → (e u : ℕ) → read_from s e u ≡ read_of (counted_on u 0) []
  unfolding has_none
  none_free w f e u =
      let h : has_none s ≡ true = rw (eq-eqb _ _ w, f) in
      none_there h e u

  pub none_blank : length s ≡ 4096 → all_ones s ≡ true → (e u : ℕ) → read_from s e u ≡ read_of (counted_on u 0) []
  unfolding state_of
  none_blank w h e u =
      let f : is_free (state_of s) ≡ true = rw h in
      none_free w f e u

  -- up to where a reader begins, each place gives what it hands out first
  pub first_for : (e u : ℕ) → e ≤ begins_at s → read_on s (begins_at s) u ≡ read_from s e u
  first_for e u l = go (has_none s) refl
    where
      go : (b : Bool) → has_none s ≡ b → read_on s (begins_at s) u ≡ read_from s e u
      go true h = let z = begins_end h in end_there (none_whole h) (begins_at s) u (omega arith) ∙ sym (none_there h e u)
      go false h =
          let z = begins_first h in
          let q : begins_at s ≡ e = omega arith in
          ap (λ (k : ℕ). read_on s k u) q ∙ sym (some_there h e u)

  -- from where a reader begins on, nothing is left to judge
  pub same_from : (e u : ℕ) → begins_at s ≤ e → read_on s e u ≡ read_from s e u
  same_from e u l = go (has_none s) refl
    where
      go : (b : Bool) → has_none s ≡ b → read_on s e u ≡ read_from s e u
      go true h = let z = begins_end h in end_there (none_whole h) e u (omega arith) ∙ sym (none_there h e u)
      go false h = sym (some_there h e u)

  pub begins_once : (u : ℕ) → read_on s (begins_at s) u ≡ read_from s (begins_at s) u
  begins_once u = same_from (begins_at s) u (omega arith)

  -- and so at the place that an answer names, if at the place where it was given
  pub begins_again : (e u : ℕ) → read_on s e u ≡ read_from s e u → let r = read_on s e u in read_on s r.next r.unread ≡ read_from s r.next r.unread
  unfolding read_of
  begins_again e u q = go (has_none s) refl
    where
      go : (b : Bool) → has_none s ≡ b → let r = read_on s e u in read_on s r.next r.unread ≡ read_from s r.next r.unread
      go true h =
          let m : (read_on s e u).next ≡ 126 = ap (λ (x : Read). x.next) (q ∙ none_there h e u) in
          end_there (none_whole h) _ _ (omega arith) ∙ sym (none_there h _ _)
      go false h = sym (some_there h _ _)

-- a reader, wherever its calls have brought it
pub same_there : (s : Bor (List ℕ)) (n : ℕ) → let r = reader_after s n in read_next r ≡ read_from r.sector.now r.entry r.unread
unfolding reader_after
same_there s zero = begins_once s.now 0
same_there s (suc n) = let r = reader_after s n in begins_again r.sector.now r.entry r.unread (same_there s n)
