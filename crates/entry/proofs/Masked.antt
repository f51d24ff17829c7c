-- The ones of a masked word count its pairs, over the number of pairs. Assumes nothing.
use mathlib.Core.Path.{◌≡◌, refl, sym, ap, ap₂, ◌∙◌}
use Prim.Native.Nat.{ℕ, zero, suc, ◌+◌, ◌-◌, ◌*◌, ◌/◌, ◌%◌, ◌^◌, ◌<◌}
use native.Mathlib.Nat.{mod-lt, zero-lt-suc, div-div-eq-div-mul, pow-suc, mul_comm}
use native.Mathlib.Omega.{arith}
use lib.Dec.{eqb, lit<}
use lib.Pow.{split, field}
use lib.Bits.{bit_and, bit_xor, and_block, and_mask, and_shr, and_mod, and_zero_r, xor_shr, xor_mod}
use lib.Count.{ones, ones_cat}
use Rattle.entry.specs.States.{count_of, one}
use Rattle.entry.specs.Ones.{masked}
use Rattle.entry.proofs.Counting.{count_ext, count_first}

-- n pairs g below b
unfoldable pub pairs_below : ℕ → ℕ → ℕ → ℕ
pairs_below g b zero = b
pairs_below g b (suc n) = pairs_below g b n * 4 + g

-- pair j of a word
abbrev pub pair_at : ℕ → ℕ → ℕ
pair_at w j = w / 4 ^ j % 4

ones_digit : (d : ℕ) → d < 2 → ones d ≡ d
unfolding ones
ones_digit zero h = refl
ones_digit (suc zero) h = refl
ones_digit (suc (suc d)) h = absurd (omega arith)

-- the lowest place of the mask
step : (x m : ℕ) → ones (bit_and (bit_and x (x / 2)) (m * 4 + 1)) ≡ ones (bit_and (bit_and (x / 4) (x / 4 / 2)) m) + bit_and (x % 4 % 2) (x % 4 / 2)
step x m =
    let z : ℕ = bit_and x (x / 2) in
    let low : bit_and (z % 4) 1 ≡ z % 2 = and_mask (z % 4) 1 ∙ omega arith in
    let rest : z / 4 ≡ bit_and (x / 4) (x / 4 / 2) = and_shr x (x / 2) 2 ∙ ap (bit_and (x / 4)) (omega arith) in
    let d₀ : x % 2 ≡ x % 4 % 2 = omega arith in
    let d₁ : x / 2 % 2 ≡ x % 4 / 2 = sym (field x 1 1) in
    let digit : z % 2 ≡ bit_and (x % 4 % 2) (x % 4 / 2) = and_mod x (x / 2) 1 ∙ ap₂ bit_and d₀ d₁ in
    ap ones (ap (λ (y : ℕ). bit_and y (m * 4 + 1)) (sym (split z 2)) ∙ and_block 2 (z / 4) m (z % 4) 1 (mod-lt z (zero-lt-suc 3)) (lit< tt) ∙ ap (λ (y : ℕ). bit_and (z / 4) m * 4 + y) low)
    ∙ ones_cat 2 (bit_and (z / 4) m) (z % 2) (omega arith)
    ∙ ap₂ (λ (p q : ℕ). ones (bit_and p m) + q) rest (ones_digit (z % 2) (omega arith) ∙ digit)

-- both digits of a flipped pair are one where the pair was the other three's
pair : (u g : ℕ) → u < 4 → g < 4 → bit_and (bit_xor u g % 2) (bit_xor u g / 2) ≡ one (eqb u (3 - g))
pair zero zero hu hg = refl
pair zero (suc zero) hu hg = refl
pair zero (suc (suc zero)) hu hg = refl
pair zero (suc (suc (suc zero))) hu hg = refl
pair zero (suc (suc (suc (suc g)))) hu hg = absurd (omega arith)
pair (suc zero) zero hu hg = refl
pair (suc zero) (suc zero) hu hg = refl
pair (suc zero) (suc (suc zero)) hu hg = refl
pair (suc zero) (suc (suc (suc zero))) hu hg = refl
pair (suc zero) (suc (suc (suc (suc g)))) hu hg = absurd (omega arith)
pair (suc (suc zero)) zero hu hg = refl
pair (suc (suc zero)) (suc zero) hu hg = refl
pair (suc (suc zero)) (suc (suc zero)) hu hg = refl
pair (suc (suc zero)) (suc (suc (suc zero))) hu hg = refl
pair (suc (suc zero)) (suc (suc (suc (suc g)))) hu hg = absurd (omega arith)
pair (suc (suc (suc zero))) zero hu hg = refl
pair (suc (suc (suc zero))) (suc zero) hu hg = refl
pair (suc (suc (suc zero))) (suc (suc zero)) hu hg = refl
pair (suc (suc (suc zero))) (suc (suc (suc zero))) hu hg = refl
pair (suc (suc (suc zero))) (suc (suc (suc (suc g)))) hu hg = absurd (omega arith)
pair (suc (suc (suc (suc u)))) g hu hg = absurd (omega arith)

next : (w j : ℕ) → pair_at (w / 4) j ≡ pair_at w (suc j)
next w j = ap (λ (x : ℕ). x % 4) (div-div-eq-div-mul w 4 (4 ^ j) ∙ ap (λ (x : ℕ). w / x) (mul_comm 4 (4 ^ j) ∙ sym (pow-suc 4 j)))

module _ (g : ℕ) (hg : g < 4) (b : ℕ) where
  pub masked-count : (n w : ℕ) → masked w (pairs_below g b n) (pairs_below 1 0 n) ≡ count_of (pair_at w) (3 - g) n
  unfolding masked pairs_below count_of ones
  masked-count zero w = ap ones (and_zero_r (bit_and (bit_xor w b) (bit_xor w b / 2)))
  masked-count (suc n) w =
      let p : ℕ = pairs_below g b n in
      let x : ℕ = bit_xor w (p * 4 + g) in
      let up : x / 4 ≡ bit_xor (w / 4) p = xor_shr w (p * 4 + g) 2 ∙ ap (bit_xor (w / 4)) (omega arith) in
      let low : x % 4 ≡ bit_xor (w % 4) g = xor_mod w (p * 4 + g) 2 ∙ ap (bit_xor (w % 4)) (omega arith) in
      let first : w % 4 ≡ pair_at w 0 = omega arith in
      step x (pairs_below 1 0 n)
      ∙ ap₂ (λ (y d : ℕ). ones (bit_and (bit_and y (y / 2)) (pairs_below 1 0 n)) + bit_and (d % 2) (d / 2)) up low
      ∙ ap₂ (λ (y d : ℕ). y + d) (masked-count n (w / 4) ∙ count_ext (3 - g) (pair_at (w / 4)) (λ j. pair_at w (suc j)) n (λ j l. next w j))
      (pair (w % 4) g (omega arith) hg ∙ ap (λ (u : ℕ). one (eqb u (3 - g))) first)
      ∙ sym (count_first (3 - g) (pair_at w) n)
