-- The reader hands out the items of its sector, each once and in order, and then no more; so too one who asks at each place anew. Assumes nothing.
use mathlib.Core.Path.{◌≡◌, refl, sym, ap, ◌∙◌}
use mathlib.Core.Bool.{Bool, true, false}
use mathlib.Core.List.{List, [], ◌∷◌, map}
use Prim.Native.Nat.{ℕ, zero, suc, ◌+◌, ◌*◌, ◌<◌}
use native.Mathlib.Omega.{arith}
use borrow.Author.Tests.{eq-eqb}
use lib.ListN.{length}
use Rattle.entry.specs.Fields.{entry_at, span_of}
use Rattle.page.specs.declared.walk.ItemHeader.{ItemHeader}
use Rattle.page.specs.State.{state_of, is_free}
use Rattle.page.specs.Walk.{Laid, laid_at, walk, items_of, header_of}
use Rattle.page.specs.Unread.{passed_from}
use Rattle.page.proofs.Walking.{item_span, walk-past, Ahead, done, meets, ahead}
use Rattle.reading.specs.declared.Read.{Read}
use Rattle.reading.specs.Reading.{counted_on, read_of, read_on, has_none, begins_at}
use Rattle.reader.specs.Reader.{read_from, handed_out}
use Rattle.reading.proofs.Told.{span_told}
use Rattle.reader.proofs.Begins.{begins_end, begins_first, begins_once, none_there, some_there}

abbrev pub told : Laid → ItemHeader
told x = header_of x.entry x.raw

module _ (s : List ℕ) (whole : length s ≡ 4096) where
  pub read_walks : (e u : ℕ) → read_on s e u ≡ read_of (counted_on u (passed_from s 126 e)) (walk s 126 e)
  unfolding read_on
  read_walks e u = rw (eq-eqb _ _ whole)

  -- from a place on, whatever the count
  hands : (n e u : ℕ) → 126 < e + n → handed_out (read_on s) n e u ≡ map told (walk s 126 e)
  unfolding handed_out read_of
  hands zero e u h = go (ahead s 126 e (omega arith))
    where
      go : Ahead s e → [] ≡ map told (walk s 126 e)
      go (done w) = sym (ap (map told) w)
      go (meets j l q w) = let r = item_span s j q in absurd (omega arith)
  hands (suc n) e u h = go (λ m v g. hands n m v g) (ahead s 126 e (omega arith))
    where
      go : ((m v : ℕ) → 126 < m + n → handed_out (read_on s) n m v ≡ map told (walk s 126 m)) → Ahead s e → handed_out (read_on s) (suc n) e u ≡ map told (walk s 126 e)
      go ih (done w) = rw (read_walks e u, w)
      go ih (meets j l q w) =
          let r = item_span s j q in
          let m = j + span_of (entry_at s j) in
          rw (read_walks e u, w, span_told s (64 + j * 32) (span_of (entry_at s j)) r.0) (ap (λ (hs : List ItemHeader). told (laid_at s j) ∷ hs) (ih m _ (omega arith)))

  none : has_none s ≡ true → items_of s ≡ walk s 126 126
  unfolding items_of has_none
  none h =
      let f : is_free (state_of s) ≡ true = sym (rw (eq-eqb _ _ whole)) ∙ h in
      rw f (sym (walk-past s 126 126 (omega arith)))

  some : has_none s ≡ false → items_of s ≡ walk s 126 0
  unfolding items_of has_none
  some h =
      let f : is_free (state_of s) ≡ false = sym (rw (eq-eqb _ _ whole)) ∙ h in
      rw f

  -- the items of the sector are what the walk meets from where a reader begins on
  pub begun : walk s 126 (begins_at s) ≡ items_of s
  begun = go (has_none s) refl
    where
      go : (b : Bool) → has_none s ≡ b → walk s 126 (begins_at s) ≡ items_of s
      go true h = ap (walk s 126) (begins_end s h) ∙ sym (none h)
      go false h = ap (walk s 126) (begins_first s h) ∙ sym (some h)

  -- a reader, from where it begins on: all items of the sector
  pub hands_out : handed_out (read_on s) 127 (begins_at s) 0 ≡ map told (items_of s)
  hands_out = hands 127 (begins_at s) 0 (omega arith) ∙ ap (map told) begun

-- one who asks at each place anew, from entry 0 on, is handed the same
pub hands-alike : (s : List ℕ) (n : ℕ) → handed_out (read_from s) n 0 0 ≡ handed_out (read_on s) n (begins_at s) 0
unfolding handed_out read_of
hands-alike s zero = refl
hands-alike s (suc n) = go (has_none s) refl
  where
    go : (b : Bool) → has_none s ≡ b → handed_out (read_from s) (suc n) 0 0 ≡ handed_out (read_on s) (suc n) (begins_at s) 0
    go true h =
        let first : read_from s 0 0 ≡ read_of (counted_on 0 0) [] = none_there s h 0 0 in
        let begun : read_on s (begins_at s) 0 ≡ read_of (counted_on 0 0) [] = begins_once s 0 ∙ none_there s h (begins_at s) 0 in
        rw (first, begun)
    go false h = rw (begins_first s h) (ap (λ (f : ℕ → ℕ → Read). handed_out f (suc n) 0 0) (λ i e u. some_there s h e u i))

pub reads-out : (s : List ℕ) → length s ≡ 4096 → handed_out (read_from s) 127 0 0 ≡ map told (items_of s)
reads-out s whole = hands-alike s 127 ∙ hands_out s whole
