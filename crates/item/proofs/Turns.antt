-- A turn of the loop that copies words: the list is its first step and the rest. The parts of a copy. Assumes nothing.
use mathlib.Core.Path.{◌≡◌, sym, ap, ◌∙◌}
use mathlib.Core.List.{List, [], ◌∷◌, ◌++◌}
use Prim.Native.Nat.{ℕ, ◌+◌, ◌-◌, ◌*◌, ◌<◌}
use native.Mathlib.Omega.{arith}
use lib.ListN.{get_or}
use borrow.Author.Tests.{eq-eqb, ne_eqb}
use Rattle.word.specs.Number.{part}
use Rattle.word.proofs.Bytes.{part-byte}
use Rattle.entry.specs.Fields.{span_of}
use Rattle.flash.specs.Step.{Step, program}
use Rattle.flash.specs.Words.{word, words}
use Rattle.flash.proofs.Words.{words_more}
use Rattle.item.specs.Mark.{page_state}
use Rattle.marking.specs.Marking.{marking}
use Rattle.item.specs.Copy.{full_mark, copying}

module _ (base next : ℕ) where
  pub full-yes : next ≡ 126 → full_mark base next ≡ page_state base 0xFC ∷ []
  unfolding full_mark
  full-yes h = rw (eq-eqb next 126 h)

  pub full-no : (next ≡ 126 → ⊥) → full_mark base next ≡ []
  unfolding full_mark
  full-no h = rw (ne_eqb next 126 h)

module _ (to from n k : ℕ) (h : k < n) where
  -- word k of what stands from `from` on, read off the image itself
  word_of : (l : List ℕ) → word to (part l from (n * 4)) k
      ≡ program (to + k * 4) (get_or l (from + k * 4) 0) (get_or l (from + k * 4 + 1) 0) (get_or l (from + k * 4 + 2) 0) (get_or l (from + k * 4 + 3) 0)
  word_of l =
      let e1 : from + (k * 4 + 1) ≡ from + k * 4 + 1 = omega arith in
      let e2 : from + (k * 4 + 2) ≡ from + k * 4 + 2 = omega arith in
      let e3 : from + (k * 4 + 3) ≡ from + k * 4 + 3 = omega arith in
      let byte = part-byte l from (n * 4) in
      rw (byte (k * 4) (omega arith), byte (k * 4 + 1) (omega arith), byte (k * 4 + 2) (omega arith), byte (k * 4 + 3) (omega arith), e1, e2, e3)

  -- the next word of the source, which stands in the image l as it stood at the start, in l₀
  pub copy_more : (l l₀ : List ℕ) → part l from (n * 4) ≡ part l₀ from (n * 4)
      → words to (part l₀ from (n * 4)) k (n - k)
      ≡ program (to + k * 4) (get_or l (from + k * 4) 0) (get_or l (from + k * 4 + 1) 0) (get_or l (from + k * 4 + 2) 0) (get_or l (from + k * 4 + 3) 0)
      ∷ words to (part l₀ from (n * 4)) (k + 1) (n - (k + 1))
  copy_more l l₀ e =
      words_more to (part l₀ from (n * 4)) k n h
      ∙ ap (λ (s : Step). s ∷ words to (part l₀ from (n * 4)) (k + 1) (n - (k + 1))) (ap (λ (z : List ℕ). word to z k) (sym e) ∙ word_of l)

-- the copy of n entries that stand from `from` on, the first of which says n
pub copying_by : (base j from n : ℕ) (l : List ℕ) → span_of (part l from (n * 32)) ≡ n
    → copying base j (part l from (n * 32)) ≡ words (base + 64 + j * 32) (part l from (n * 8 * 4)) 0 (n * 8) ++ (marking base j n ++ full_mark base (j + n))
unfolding copying
copying_by base j from n l e =
    let q : n * 8 * 4 ≡ n * 32 = omega arith in
    rw (q, e)
