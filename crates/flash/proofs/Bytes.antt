-- A programmed word is four bytes, each set once: what stands in them and beside them. Assumes nothing.
use mathlib.Core.Path.{◌≡◌, refl, ap, ◌∙◌}
use mathlib.Core.Logic.{◌⊎◌, ⊎_elim}
use mathlib.Core.List.{List}
use Prim.Native.Nat.{ℕ, zero, suc, ◌+◌, ◌≤◌, ◌<◌}
use native.Mathlib.Nat.{add-zero}
use native.Mathlib.Omega.{arith}
use Rattle.std.proofs.Common.{add-one}
use lib.ListN.{length, get_or, set, length-set}
use lib.Seq.{get_or-set_other, get_or-set_same}
use Rattle.flash.specs.Step.{put, and_word, and8}

pub length-put : (l : List ℕ) (i b : ℕ) → length (put l i b) ≡ length l
unfolding put
length-put l i b = length-set l i _

pub put_other : (l : List ℕ) (i b j : ℕ) → (j ≡ i → ⊥) → get_or (put l i b) j 0 ≡ get_or l j 0
unfolding put
put_other l i b j h = get_or-set_other l i j _ 0 h

pub put_same_at : (l : List ℕ) (i b : ℕ) → i < length l → get_or (put l i b) i 0 ≡ and8 (get_or l i 0) b
unfolding put
put_same_at l i b h = get_or-set_same l i _ 0 h

-- the first k bytes of a word, each set at its place
abbrev pub puts : List ℕ → ℕ → List ℕ → ℕ → List ℕ
puts l at w zero = l
puts l at w (suc k) = put (puts l at w k) (at + k) (get_or w k 0)

-- one more of them: byte k becomes the AND of the two
pub puts_more : (l : List ℕ) (at : ℕ) (w : List ℕ) (k : ℕ) (m : List ℕ) (b : ℕ) → m ≡ puts l at w k → b ≡ and8 (get_or m (at + k) 0) (get_or w k 0) → set m (at + k) b ≡ puts l at w (k + 1)
unfolding put
puts_more l at w k m b e f = rw (f, add-one k, e)

-- all four of them
pub puts_word : (l : List ℕ) (at : ℕ) (w : List ℕ) (k : ℕ) → k ≡ 4 → puts l at w k ≡ and_word l at (get_or w 0 0) (get_or w 1 0) (get_or w 2 0) (get_or w 3 0)
unfolding and_word
puts_word l at w k e = rw (e, add-zero)

-- byte i of four
abbrev pub nth4 : ℕ → ℕ → ℕ → ℕ → ℕ → ℕ
nth4 a b c d zero = a
nth4 a b c d (suc zero) = b
nth4 a b c d (suc (suc zero)) = c
nth4 a b c d (suc (suc (suc i))) = d

-- four values of a function are its values
pub nth_of : (f : ℕ → ℕ) (k i : ℕ) → i < 4 → nth4 (f k) (f (k + 1)) (f (k + 2)) (f (k + 3)) i ≡ f (k + i)
nth_of f k zero h = rw add-zero
nth_of f k (suc zero) h = refl
nth_of f k (suc (suc zero)) h = refl
nth_of f k (suc (suc (suc zero))) h = refl
nth_of f k (suc (suc (suc (suc i)))) h = absurd (omega arith)

module _ (l : List ℕ) (at b0 b1 b2 b3 : ℕ) where
  pub length-and_word : length (and_word l at b0 b1 b2 b3) ≡ length l
  unfolding and_word
  length-and_word = simp length-put

  pub word-other : (j : ℕ) → (j < at) ⊎ (at + 4 ≤ j) → get_or (and_word l at b0 b1 b2 b3) j 0 ≡ get_or l j 0
  unfolding and_word
  word-other j h =
      let apart : (i : ℕ) → i < 4 → j ≡ at + i → ⊥ = λ i g e. ⊎_elim (λ p. omega arith) (λ p. omega arith) h in
      let first : j ≡ at → ⊥ = λ e. ⊎_elim (λ p. omega arith) (λ p. omega arith) h in
      put_other _ (at + 3) b3 j (apart 3 (omega arith)) ∙ put_other _ (at + 2) b2 j (apart 2 (omega arith))
      ∙ put_other _ (at + 1) b1 j (apart 1 (omega arith)) ∙ put_other l at b0 j first

  pub word_byte : (i : ℕ) → i < 4 → at + 4 ≤ length l → get_or (and_word l at b0 b1 b2 b3) (at + i) 0 ≡ and8 (get_or l (at + i) 0) (nth4 b0 b1 b2 b3 i)
  unfolding and_word
  word_byte zero g h =
      rw add-zero (
      put_other _ (at + 3) b3 at (λ e. omega arith) ∙ put_other _ (at + 2) b2 at (λ e. omega arith)
      ∙ put_other _ (at + 1) b1 at (λ e. omega arith) ∙ put_same_at l at b0 (omega arith)
      )
  word_byte (suc zero) g h =
      let n = length-put l at b0 in
      put_other _ (at + 3) b3 (at + 1) (λ e. omega arith) ∙ put_other _ (at + 2) b2 (at + 1) (λ e. omega arith)
      ∙ put_same_at (put l at b0) (at + 1) b1 (omega arith)
      ∙ ap (λ (x : ℕ). and8 x b1) (put_other l at b0 (at + 1) (λ e. omega arith))
  word_byte (suc (suc zero)) g h =
      let n : length (put (put l at b0) (at + 1) b1) ≡ length l = simp length-put in
      put_other _ (at + 3) b3 (at + 2) (λ e. omega arith) ∙ put_same_at (put (put l at b0) (at + 1) b1) (at + 2) b2 (omega arith)
      ∙ ap (λ (x : ℕ). and8 x b2) (put_other (put l at b0) (at + 1) b1 (at + 2) (λ e. omega arith) ∙ put_other l at b0 (at + 2) (λ e. omega arith))
  word_byte (suc (suc (suc zero))) g h =
      let n : length (put (put (put l at b0) (at + 1) b1) (at + 2) b2) ≡ length l = simp length-put in
      put_same_at (put (put (put l at b0) (at + 1) b1) (at + 2) b2) (at + 3) b3 (omega arith)
      ∙ ap (λ (x : ℕ). and8 x b3) (
      put_other (put (put l at b0) (at + 1) b1) (at + 2) b2 (at + 3) (λ e. omega arith)
      ∙ put_other (put l at b0) (at + 1) b1 (at + 3) (λ e. omega arith) ∙ put_other l at b0 (at + 3) (λ e. omega arith)
      )
  word_byte (suc (suc (suc (suc i)))) g h = absurd (omega arith)
