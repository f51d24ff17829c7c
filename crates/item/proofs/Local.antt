-- The steps of an operation on a page are the same on the page's own bytes, shifted to where the page stands. Assumes nothing.
use mathlib.Core.Path.{◌≡◌, refl, sym, ap, ◌∙◌}
use mathlib.Core.Bool.{Bool, true, false, cond}
use mathlib.Core.List.{List, [], ◌∷◌, ◌++◌, reverse}
use Prim.Native.Nat.{ℕ, zero, suc, ◌+◌, ◌*◌, ◌/◌, ◌≤◌}
use native.Mathlib.Nat.{add-zero}
use native.Mathlib.Omega.{arith}
use lib.Dec.{eqb}
use Rattle.entry.specs.Fields.{span_of}
use Rattle.flash.specs.Step.{Step}
use Rattle.flash.specs.Words.{words}
use Rattle.flash.proofs.Every.{Every, every_append}
use Rattle.flash.proofs.Lent.{shift, Fit, AllFit, shift-append, shift_reverse}
use Rattle.flash.proofs.Words.{words_fit, words-shift}
use Rattle.item.specs.Mark.{page_state}
use Rattle.marking.specs.Marking.{state_steps, marking, unmarking}
use Rattle.item.specs.Copy.{full_mark, copying}
use Rattle.item.specs.Erase.{erasing}
use Rattle.marking.proofs.Spans.{marking-every, unmarking-every}

-- ---- shifted

module _ (a : ℕ) where
  states-shift : (d j n : ℕ) → state_steps a d j n ≡ shift a (state_steps 0 d j n)
  unfolding state_steps
  states-shift d j zero = refl
  states-shift d j (suc n) =
      let i : a + 32 + j / 16 * 4 ≡ a + (32 + j / 16 * 4) = omega arith in
      rw (i, states-shift d (j + 1) n)

  pub marking-shift : (j n : ℕ) → marking a j n ≡ shift a (marking 0 j n)
  unfolding marking
  marking-shift j n = states-shift 1 j n

  pub unmarking-shift : (j n : ℕ) → unmarking a j n ≡ shift a (unmarking 0 j n)
  unfolding unmarking
  unmarking-shift j n = ap (λ (x : List Step). reverse x) (states-shift 3 j n) ∙ sym (shift_reverse a (state_steps 0 3 j n))

  pub full-shift : (next : ℕ) → full_mark a next ≡ shift a (full_mark 0 next)
  unfolding full_mark
  full-shift next = go (eqb next 126)
    where
      go : (b : Bool) → cond b (page_state a 0xFC ∷ []) [] ≡ shift a (cond b (page_state 0 0xFC ∷ []) [])
      go true = rw add-zero
      go false = refl

  pub copying-shift : (j : ℕ) (r : List ℕ) → copying a j r ≡ shift a (copying 0 j r)
  unfolding copying
  copying-shift j r =
      let i : a + 64 + j * 32 ≡ a + (64 + j * 32) = omega arith in
      rw (i, words-shift (64 + j * 32) r a 0 (span_of r * 8), marking-shift j (span_of r), full-shift (j + span_of r), shift-append a, shift-append a)

  -- the words of a header
  pub header-shift : (h : List ℕ) → words a h 1 7 ++ words a h 0 1 ≡ shift a (words 0 h 1 7 ++ words 0 h 0 1)
  header-shift h =
      let at : (k n : ℕ) → words a h k n ≡ shift a (words 0 h k n) = λ k n. ap (λ (x : ℕ). words x h k n) (sym (add-zero a)) ∙ words-shift 0 h a k n in
      rw (at 1 7, at 0 1, shift-append a)

pub erasing-shift : (s i n : ℕ) → erasing s i n ≡ shift (s * 4096) (unmarking 0 i n)
unfolding erasing
erasing-shift s i n = unmarking-shift (s * 4096) i n

-- ---- within the page's bytes

pub marking_fit : (j n : ℕ) → j + n ≤ 126 → AllFit 4096 (marking 0 j n)
marking_fit j n h = marking-every 0 j n (Fit 4096) (λ e a b. omega arith)

pub unmarking_fit : (j n : ℕ) → j + n ≤ 126 → AllFit 4096 (unmarking 0 j n)
unmarking_fit j n h = unmarking-every 0 j n (Fit 4096) (λ e a b. omega arith)

pub full_fit : (next : ℕ) → AllFit 4096 (full_mark 0 next)
unfolding full_mark Every
full_fit next = go (eqb next 126)
  where
    go : (b : Bool) → AllFit 4096 (cond b (page_state 0 0xFC ∷ []) [])
    go true = (omega arith, tt)
    go false = tt

pub copying_fit : (j : ℕ) (r : List ℕ) → j + span_of r ≤ 126 → AllFit 4096 (copying 0 j r)
unfolding copying
copying_fit j r h =
    every_append (Fit 4096) _ _ (words_fit (64 + j * 32) r 4096 0 (span_of r * 8) (omega arith))
    (every_append (Fit 4096) _ _ (marking_fit j (span_of r) h) (full_fit (j + span_of r)))

pub header_fit : (h : List ℕ) → AllFit 4096 (words 0 h 1 7 ++ words 0 h 0 1)
header_fit h = every_append (Fit 4096) _ _ (words_fit 0 h 4096 1 7 (omega arith)) (words_fit 0 h 4096 0 1 (omega arith))
