-- The mask of an entry: which byte of the word it is in, and pair by pair: what is taken off its own does not borrow from the next, and every other is ones.
-- Assumes nothing.
use mathlib.Core.Path.{◌≡◌, refl, sym, ◌∙◌}
use mathlib.Core.Bool.{Bool, true, false, cond}
use Prim.Native.Nat.{ℕ, ◌+◌, ◌-◌, ◌*◌, ◌/◌, ◌%◌, ◌^◌, ◌≤◌, ◌<◌}
use native.Mathlib.Nat.{add-zero}
use native.Mathlib.Omega.{arith}
use lib.Dec.{eqb}
use borrow.Author.Tests.{eq-eqb, ne_eqb, eqb-true, eqb-false}
use Rattle.std.specs.Int.{byte_at}
use Rattle.lists.specs.Lists.{all_to}
use Rattle.lists.proofs.Passing.{all_at}
use Rattle.flash.specs.Step.{program}
use Rattle.marking.specs.Marking.{mask_of, state_step}

-- pair i of ones, less d in pair r
abbrev pair_less : ℕ → ℕ → ℕ → ℕ
pair_less d r i = (255 - d * 2 ^ (2 * r)) / 2 ^ (2 * i) % 4

abbrev right : ℕ → ℕ → ℕ → Bool
right d r i = eqb (pair_less d r i) (3 - cond (eqb i r) d 0)

-- all 64 of them, computed
pairs_right : all_to (λ (d : ℕ). all_to (λ (r : ℕ). all_to (right d r) 4) 4) 4 ≡ true
unfolding all_to
pairs_right = refl

pair_less_lem : (d r i : ℕ) → d ≤ 3 → r < 4 → i < 4 → pair_less d r i ≡ 3 - cond (eqb i r) d 0
pair_less_lem d r i f g h =
    eqb-true _ _ (all_at (right d r) 4 (all_at (λ (x : ℕ). all_to (right d x) 4) 4 (all_at (λ (y : ℕ). all_to (λ (x : ℕ). all_to (right y x) 4) 4) 4 pairs_right d (omega arith)) r g) i h)

-- ---- the word of an entry: one of its four bytes is the mask's, the others are ones

-- the byte that holds the entry's pair
abbrev own_byte : ℕ → ℕ → ℕ
own_byte d e = 255 - d * 2 ^ (2 * (e % 4))

mask_is : (d e b : ℕ) → b ≡ e / 4 → mask_of d e b ≡ own_byte d e
unfolding mask_of
mask_is d e b h = rw (eq-eqb b (e / 4) h)

mask-not : (d e b : ℕ) → (b ≡ e / 4 → ⊥) → mask_of d e b ≡ 255
unfolding mask_of
mask-not d e b h = rw (ne_eqb b (e / 4) h)

-- ones in 32 bits, less d in pair r
abbrev pub word_less : ℕ → ℕ → ℕ
word_less d r = 4294967295 - d * 2 ^ (2 * r) % 4294967296

abbrev byte_right : ℕ → ℕ → ℕ → Bool
byte_right d r i = eqb (byte_at i (word_less d r)) (cond (eqb i (r / 4)) (255 - d * 2 ^ (2 * (r % 4))) 255)

-- byte by byte, all 256 of them, computed
bytes_right : all_to (λ (d : ℕ). all_to (λ (r : ℕ). all_to (byte_right d r) 4) 16) 4 ≡ true
unfolding all_to
bytes_right = refl

module _ (base d e : ℕ) (small : d ≤ 3) where
  word_byte : (i : ℕ) → i < 4 → byte_at i (word_less d (e % 16)) ≡ mask_of d e (e / 16 * 4 + i)
  word_byte i h =
      eqb-true _ _ (all_at (byte_right d (e % 16)) 4 (all_at (λ (r : ℕ). all_to (byte_right d r) 4) 16 (all_at (λ (x : ℕ). all_to (λ (r : ℕ). all_to (byte_right x r) 4) 16) 4 bytes_right d (omega arith)) (e % 16) (omega arith)) i h)
      ∙ go (eqb i (e % 16 / 4)) refl
    where
      go : (b : Bool) → eqb i (e % 16 / 4) ≡ b → cond b (255 - d * 2 ^ (2 * (e % 16 % 4))) 255 ≡ mask_of d e (e / 16 * 4 + i)
      go true q =
          let k = eqb-true i (e % 16 / 4) q in
          let r : e % 16 % 4 ≡ e % 4 = omega arith in
          rw r (sym (mask_is d e (e / 16 * 4 + i) (omega arith)))
      go false q =
          let k : (i ≡ e % 16 / 4 → ⊥) = eqb-false i (e % 16 / 4) q in
          sym (mask-not d e (e / 16 * 4 + i) (λ z. k (omega arith)))

  -- the step programs that word
  pub step_word : program (base + 32 + e / 16 * 4) (byte_at 0 (word_less d (e % 16))) (byte_at 1 (word_less d (e % 16))) (byte_at 2 (word_less d (e % 16))) (byte_at 3 (word_less d (e % 16))) ≡ state_step base d e
  step_word = rw (word_byte 0 (omega arith), word_byte 1 (omega arith), word_byte 2 (omega arith), word_byte 3 (omega arith), add-zero (e / 16 * 4))

-- ---- pair by pair

module _ (d e : ℕ) (small : d ≤ 3) where
  pub mask-own : mask_of d e (e / 4) / 2 ^ (2 * (e % 4)) % 4 ≡ 3 - d
  unfolding mask_of
  mask-own = rw (eq-eqb (e / 4) (e / 4) refl, pair_less_lem d (e % 4) (e % 4) small (omega arith) (omega arith), eq-eqb (e % 4) (e % 4) refl)

  pub mask-other : (x : ℕ) → (x ≡ e → ⊥) → mask_of d e (x / 4) / 2 ^ (2 * (x % 4)) % 4 ≡ 3
  unfolding mask_of
  mask-other x ne = go (eqb (x / 4) (e / 4)) refl
    where
      go : (b : Bool) → eqb (x / 4) (e / 4) ≡ b → cond b (255 - d * 2 ^ (2 * (e % 4))) 255 / 2 ^ (2 * (x % 4)) % 4 ≡ 3
      go true q = let s = eqb-true (x / 4) (e / 4) q in rw (pair_less_lem d (e % 4) (x % 4) small (omega arith) (omega arith), ne_eqb (x % 4) (e % 4) (λ r. ne (omega arith)))
      go false q = pair_less_lem 0 0 (x % 4) (omega arith) (omega arith) (omega arith) ∙ rw (zero_less (eqb (x % 4) 0))
        where
          zero_less : (c : Bool) → 3 - cond c 0 0 ≡ 3
          zero_less true = refl
          zero_less false = refl
