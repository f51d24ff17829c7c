-- The words of a list of bytes, one by one: a turn of the loop that programs them, where they stand, and what they leave on blank bytes.
-- Assumes nothing.
use mathlib.Core.Path.{◌≡◌, refl, ap, ◌∙◌}
use mathlib.Core.Logic.{inl, inr, ⊎_elim}
use mathlib.Core.List.{List, [], ◌∷◌}
use Prim.Native.Nat.{ℕ, zero, suc, ◌+◌, ◌-◌, ◌*◌, ◌≤◌, ◌<◌}
use native.Mathlib.Omega.{arith}
use lib.ListN.{length, get_or}
use Rattle.flash.specs.Step.{run, apply}
use Rattle.flash.specs.Words.{word, words}
use Rattle.flash.proofs.Order.{le-or-gt}
use Rattle.flash.proofs.And.{and8-blank}
use Rattle.flash.proofs.Bytes.{word_byte, nth_of}
use Rattle.flash.proofs.Every.{Every}
use Rattle.flash.proofs.Frame.{AllIn, length-apply, apply-other, run-other}
use Rattle.flash.proofs.Lent.{AllFit, shift}

module _ (at : ℕ) (e : List ℕ) where
  pub length-words : (k n : ℕ) → length (words at e k n) ≡ n
  unfolding words
  length-words k zero = refl
  length-words k (suc n) = ap suc (length-words (k + 1) n)

  pub words_more : (k n : ℕ) → k < n → words at e k (n - k) ≡ word at e k ∷ words at e (k + 1) (n - (k + 1))
  unfolding words
  words_more k n h =
      let q : n - k ≡ suc (n - (k + 1)) = omega arith in
      rw q

  pub words_end : (k n : ℕ) → n ≤ k → words at e k (n - k) ≡ []
  unfolding words
  words_end k n h =
      let q : n - k ≡ 0 = omega arith in
      rw q

  pub words_in : (a b k n : ℕ) → a ≤ at + k * 4 → at + (k + n) * 4 ≤ b → AllIn a b (words at e k n)
  unfolding words Every
  words_in a b k zero p q = tt
  words_in a b k (suc n) p q = ((omega arith, omega arith), words_in a b (k + 1) n (omega arith) (omega arith))

  pub words_fit : (m k n : ℕ) → at + (k + n) * 4 ≤ m → AllFit m (words at e k n)
  unfolding words Every
  words_fit m k zero h = tt
  words_fit m k (suc n) h = (omega arith, words_fit m (k + 1) n (omega arith))

  pub words-shift : (a k n : ℕ) → words (a + at) e k n ≡ shift a (words at e k n)
  unfolding words
  words-shift a k zero = refl
  words-shift a k (suc n) =
      let i : a + at + k * 4 ≡ a + (at + k * 4) = omega arith in
      rw (i, words-shift a (k + 1) n)

  -- one word programmed on a blank byte leaves its byte
  word_read : (l : List ℕ) (k i : ℕ) → at + k * 4 + 4 ≤ length l → i < 4 → get_or e (k * 4 + i) 0 < 256 → get_or l (at + (k * 4 + i)) 0 ≡ 0xFF
      → get_or (apply (word at e k) l) (at + (k * 4 + i)) 0 ≡ get_or e (k * 4 + i) 0
  unfolding apply
  word_read l k i h g small ones =
      let p : at + (k * 4 + i) ≡ at + k * 4 + i = omega arith in
      let ones' : get_or l (at + k * 4 + i) 0 ≡ 0xFF = rw p at ones in
      rw p (word_byte l (at + k * 4) _ _ _ _ i g h ∙ rw (ones', nth_of (λ j. get_or e j 0) (k * 4) i g) (and8-blank _ small))

  -- the words after word k leave its bytes
  word-stays : (l : List ℕ) (k n j : ℕ) → j < k * 4 → get_or (run (words at e k n) l) (at + j) 0 ≡ get_or l (at + j) 0
  word-stays l k n j h = run-other (at + k * 4) (at + (k + n) * 4) (words at e k n) l (at + j) (words_in _ _ k n (omega arith) (omega arith)) (inl (omega arith))

  -- words programmed on blank bytes are the words
  pub words-read : (l : List ℕ) (k n : ℕ) → at + (k + n) * 4 ≤ length l → ((i : ℕ) → get_or e i 0 < 256)
      → ((j : ℕ) → k * 4 ≤ j → j < (k + n) * 4 → get_or l (at + j) 0 ≡ 0xFF)
      → (j : ℕ) → k * 4 ≤ j → j < (k + n) * 4 → get_or (run (words at e k n) l) (at + j) 0 ≡ get_or e j 0
  unfolding words run
  words-read l k zero h small ones j u v = absurd (omega arith)
  words-read l k (suc n) h small ones j u v =
      let m = apply (word at e k) l in
      let i = j - k * 4 in
      let z : k * 4 + i ≡ j = omega arith in
      let len : length m ≡ length l = length-apply (word at e k) l in
      ⊎_elim
      (λ g. word-stays m (k + 1) n j (omega arith) ∙ (rw z at (word_read l k i (omega arith) (omega arith) (small (k * 4 + i)) (rw z (ones j u v)))))
      (λ g. words-read m (k + 1) n (omega arith) small
      (λ x c d. apply-other (at + k * 4) (at + k * 4 + 4) (word at e k) l (at + x) (omega arith, omega arith) (inr (omega arith)) ∙ ones x (omega arith) (omega arith))
      j (omega arith) (omega arith))
      (le-or-gt (j + 1) (k * 4 + 4))
