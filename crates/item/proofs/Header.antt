-- The header that initialising writes is one that a reader takes: its bytes are numbers below 256 and its numbers come back. Assumes nothing.
use mathlib.Core.Path.{◌≡◌, refl, sym, ap, ◌∙◌}
use mathlib.Core.Bool.{true}
use mathlib.Core.List.{List, [], ◌∷◌, ◌++◌}
use Prim.Native.Nat.{ℕ, zero, suc, ◌+◌, ◌*◌, ◌/◌, ◌%◌, ◌^◌, ◌<◌}
use native.Mathlib.Omega.{arith}
use lib.ListN.{length, get_or, replicate}
use borrow.Author.Tests.{eq-eqb}
use Rattle.word.specs.Number.{part, le}
use Rattle.crc.specs.Crc.{crc_of}
use Rattle.page.specs.State.{header_right, sequence_of}
use Rattle.item.specs.Initialise.{bytes4, body, header}

-- each byte of a list is one
abbrev Small : List ℕ → Type 0
Small [] = Unit {0}
Small (x ∷ xs) = (x < 256) × Small xs

small_byte : (xs : List ℕ) → Small xs → (i : ℕ) → get_or xs i 0 < 256
small_byte [] f i = omega arith
small_byte (x ∷ xs) f zero = f.0
small_byte (x ∷ xs) f (suc i) = small_byte xs f.1 i

small_append : (xs ys : List ℕ) → Small xs → Small ys → Small (xs ++ ys)
small_append [] ys f g = g
small_append (x ∷ xs) ys f g = (f.0, small_append xs ys f.1 g)

small_four : (n : ℕ) → Small (bytes4 n)
unfolding bytes4
small_four n = (omega arith, (omega arith, (omega arith, (omega arith, tt))))

small_ones : (n : ℕ) → Small (replicate n 0xFF)
small_ones zero = tt
small_ones (suc n) = (omega arith, small_ones n)

-- four bytes of a number, read again
four-back : (n : ℕ) → n < 2 ^ 32 → n % 256 + 256 * (n / 256 % 256 + 256 * (n / 65536 % 256 + 256 * (n / 16777216 % 256 + 256 * 0))) ≡ n
four-back n h =
    let a : n / 65536 ≡ n / 256 / 256 = omega arith in
    let b : n / 16777216 ≡ n / 256 / 256 / 256 = omega arith in
    let c : n / 256 / 256 / 256 % 256 ≡ n / 256 / 256 / 256 = omega arith in
    rw (a, b, c) (omega arith)

crc-lt : (s : List ℕ) → crc_of s < 2 ^ 32
unfolding crc_of
crc-lt s = omega arith

module _ (q : ℕ) where
  pub header_small : (i : ℕ) → get_or (header q) i 0 < 256
  unfolding header body
  header_small =
      let small : Small (body q) = small_append (bytes4 q) _ (small_four q) (omega arith, small_ones 19) in
      small_byte (header q) (omega arith, (omega arith, (omega arith, (omega arith, small_append (body q) _ small (small_four _)))))

  pub header-length : length (header q) ≡ 32
  unfolding header body bytes4
  header-length = refl

  crc-back : le (header q) 28 4 ≡ crc_of (body q)
  unfolding header body bytes4 le
  crc-back = four-back (crc_of (body q)) (crc-lt (body q))

  body-part : part (header q) 4 24 ≡ body q
  unfolding header body bytes4
  body-part = refl

  pub header_right_lem : header_right (header q) ≡ true
  unfolding header_right header body bytes4
  header_right_lem = eq-eqb _ _ (crc-back ∙ sym (ap crc_of body-part))

  pub header-sequence : q < 2 ^ 32 → sequence_of (header q) ≡ q
  unfolding header body bytes4 le
  header-sequence h = four-back q h
