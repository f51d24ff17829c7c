-- The pairs of a word read from bytes are the entries' states. Assumes nothing.
use mathlib.Core.Path.{◌≡◌, refl, sym, ap, ap₂, ◌∙◌}
use mathlib.Core.List.{List}
use Prim.Native.Nat.{ℕ, zero, suc, ◌+◌, ◌-◌, ◌*◌, ◌/◌, ◌%◌, ◌^◌, ◌<◌}
use native.Mathlib.Nat.{div-div-eq-div-mul, pow-suc}
use native.Mathlib.Omega.{arith}
use lib.ListN.{get_or}
use lib.Pow.{pow-add}
use Rattle.word.specs.Number.{le}
use Rattle.word.proofs.Bytes.{byte}
use Rattle.entry.specs.States.{state_at, count_of}
use Rattle.entry.proofs.Counting.{count_ext, count_add}
use Rattle.entry.proofs.Masked.{pair_at, pairs_below, masked-count}
use Rattle.entry.specs.Ones.{masked}

-- a pair of a byte's, by its place
in_byte : (y r : ℕ) → r < 4 → y / 4 ^ r % 4 ≡ (y % 256) / 2 ^ (2 * r) % 4
in_byte y zero h = omega arith
in_byte y (suc zero) h = omega arith
in_byte y (suc (suc zero)) h = omega arith
in_byte y (suc (suc (suc zero))) h = omega arith
in_byte y (suc (suc (suc (suc r)))) h = absurd (omega arith)

-- 4 ^ (4 q + r)
power : (q : ℕ) → 4 ^ (4 * q) ≡ 256 ^ q
power zero = refl
power (suc q) =
    let e : 4 * suc q ≡ 4 * q + 4 = omega arith in
    ap (λ (x : ℕ). 4 ^ x) e ∙ pow-add 4 (4 * q) 4 ∙ ap (λ (x : ℕ). x * 256) (power q) ∙ sym (pow-suc 256 q)

-- a pair of a word is a pair of its byte
pub pair-byte : (w j : ℕ) → pair_at w j ≡ w / 256 ^ (j / 4) % 256 / 2 ^ (2 * (j % 4)) % 4
pair-byte w j =
    let q : ℕ = j / 4 in
    let r : ℕ = j % 4 in
    let e : j ≡ 4 * q + r = omega arith in
    ap (λ (x : ℕ). w / 4 ^ x % 4) e ∙ ap (λ (x : ℕ). w / x % 4) (pow-add 4 (4 * q) r ∙ ap (λ (x : ℕ). x * 4 ^ r) (power q))
    ∙ ap (λ (x : ℕ). x % 4) (sym (div-div-eq-div-mul w (256 ^ q) (4 ^ r)))
    ∙ in_byte (w / 256 ^ q) r (omega arith)

module _ (s : List ℕ) (small : (i : ℕ) → get_or s i 0 < 256) where
  -- pair j of the word at byte 32 + k
  pub pair_is : (k j : ℕ) → j < 32 → pair_at (le s (32 + k) 8) j ≡ state_at s (4 * k + j)
  unfolding le state_at
  pair_is k j h =
      let e₁ : 32 + k + j / 4 ≡ 32 + (4 * k + j) / 4 = omega arith in
      let e₂ : j % 4 ≡ (4 * k + j) % 4 = omega arith in
      pair-byte (le s (32 + k) 8) j
      ∙ ap (λ (x : ℕ). x / 2 ^ (2 * (j % 4)) % 4) (byte (λ i. get_or s (32 + k + i) 0) (λ i. small (32 + k + i)) 8 (j / 4) (omega arith))
      ∙ ap₂ (λ (x y : ℕ). get_or s x 0 / 2 ^ (2 * y) % 4) e₁ e₂

  -- 126 entries, in four words
  four-words : (v : ℕ) → count_of (state_at s) v 126
      ≡ count_of (pair_at (le s 32 8)) v 32 + count_of (pair_at (le s 40 8)) v 32 + count_of (pair_at (le s 48 8)) v 32 + count_of (pair_at (le s 56 8)) v 30
  four-words v =
      let word : (k n : ℕ) → n < 33 → count_of (λ j. state_at s (4 * k + j)) v n ≡ count_of (pair_at (le s (32 + k) 8)) v n =
      λ k n h. count_ext v (λ j. state_at s (4 * k + j)) (pair_at (le s (32 + k) 8)) n (λ j l. sym (pair_is k j (omega arith))) in
      let first : count_of (state_at s) v 32 ≡ count_of (λ j. state_at s (4 * 0 + j)) v 32 =
      count_ext v (state_at s) (λ j. state_at s (4 * 0 + j)) 32 (λ j l. ap (state_at s) (omega arith)) in
      omega (
        arith,
        first,
        word 0 32 (omega arith),
        word 8 32 (omega arith),
        word 16 32 (omega arith),
        word 24 30 (omega arith),
        count_add v (state_at s) 96 30,
        count_add v (state_at s) 64 32,
        count_add v (state_at s) 32 32,
      )

  -- the ones of the four masked words are the entries of a state, counted one by one
  pub total : (g : ℕ) → g < 4 → (t a b c d : ℕ) → a ≡ le s 32 8 → b ≡ le s 40 8 → c ≡ le s 48 8 → d ≡ le s 56 8
      → t ≡ masked a (pairs_below g 0 32) (pairs_below 1 0 32) + masked b (pairs_below g 0 32) (pairs_below 1 0 32) + masked c (pairs_below g 0 32) (pairs_below 1 0 32) + masked d (pairs_below g 0 32) (pairs_below 1 0 30)
      → t ≡ count_of (state_at s) (3 - g) 126
  unfolding pairs_below
  total g hg t a b c d ea eb ec ed e =
      let m : (w x : ℕ) → w ≡ x → masked w (pairs_below g 0 32) (pairs_below 1 0 32) ≡ count_of (pair_at x) (3 - g) 32 =
      λ w x q. masked-count g hg 0 32 w ∙ ap (λ (y : ℕ). count_of (pair_at y) (3 - g) 32) q in
      omega (
        arith,
        e,
        m a (le s 32 8) ea,
        m b (le s 40 8) eb,
        m c (le s 48 8) ec,
        masked-count g hg (pairs_below g 0 2) 30 d ∙ ap (λ (y : ℕ). count_of (pair_at y) (3 - g) 30) ed,
        four-words (3 - g),
      )
