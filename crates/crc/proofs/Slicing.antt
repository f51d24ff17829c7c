-- CRC bits of a word go byte by byte through tables, and four bytes go into the register as one word. Assumes nothing.
use mathlib.Core.Path.{◌≡◌, refl, sym, ap, ap₂, ◌∙◌}
use mathlib.Core.List.{List, [], ◌∷◌}
use Prim.Native.Nat.{ℕ, zero, suc, ◌+◌, ◌*◌, ◌/◌, ◌%◌, ◌^◌, ◌<◌, ◌≤◌}
use native.Mathlib.Nat.{mod-lt, zero-add, suc-add}
use native.Mathlib.Omega.{arith}
use native.Mathlib.Numerals.{add-one}
use mathlib.Core.Bool.{Bool, true, false}
use borrow.Author.Tests.{ltb-true, ltb-false}
use lib.Dec.{ltb, lit<}
use lib.ListN.{length, take, drop, get_or, drop_of_length-le, take-append-drop, get_or-eq_default}
use lib.Seq.{drop-cons, get_or-take, length-take-le}
use lib.Pow.{pow_pos, split}
use Rattle.word.specs.Number.{le}
use Rattle.word.proofs.Bytes.{le_four, le-part}
use lib.Bits.{bit_xor, xor_comm, xor_shifted}
use Rattle.crc.specs.Crc.{crc_bit, crc_bits, crc_byte, crc_from}
use Rattle.crc.proofs.Xor.{xor_assoc}
use Rattle.crc.proofs.Pieces.{from_append}
use Rattle.crc.proofs.Linear.{bits_xor, bits_even, bits_split}

pub bits_add : (n m r : ℕ) → crc_bits (n + m) r ≡ crc_bits m (crc_bits n r)
unfolding crc_bits
bits_add zero m r = ap (λ (k : ℕ). crc_bits k r) (zero-add m)
bits_add (suc n) m r = ap (λ (k : ℕ). crc_bits k r) (suc-add n m) ∙ bits_add n m (crc_bit r)

-- the n low digits by themselves, and the others, which only the m later bits reach
pub low_first : (n m x : ℕ) → crc_bits (n + m) x ≡ bit_xor (crc_bits (n + m) (x % 2 ^ n)) (crc_bits m (x / 2 ^ n))
low_first n m x =
    let h : ℕ = x / 2 ^ n * 2 ^ n in
    let l : ℕ = x % 2 ^ n in
    ap (crc_bits (n + m)) (sym (split x n) ∙ sym (xor_shifted (x / 2 ^ n) n l (mod-lt x (pow_pos n))))
    ∙ bits_xor (n + m) h l
    ∙ xor_comm (crc_bits (n + m) h) (crc_bits (n + m) l)
    ∙ ap (bit_xor (crc_bits (n + m) l)) (bits_add n m h ∙ ap (crc_bits m) (bits_even n (x / 2 ^ n)))

-- a byte more in front
pub in_front : (n r b v : ℕ) → b < 256 → crc_bits n (bit_xor (crc_byte r b) v) ≡ crc_bits (8 + n) (bit_xor r (b + 256 * v))
unfolding crc_byte
in_front n r b v h =
    let e : v * 2 ^ 8 + b ≡ b + 256 * v = omega arith in
    let f : bit_xor b (v * 2 ^ 8) ≡ b + 256 * v = xor_comm b (v * 2 ^ 8) ∙ xor_shifted v 8 b h ∙ e in
    ap (crc_bits n) (ap (bit_xor (crc_bits 8 (bit_xor r b))) (sym (bits_even 8 v)) ∙ sym (bits_xor 8 (bit_xor r b) (v * 2 ^ 8)))
    ∙ sym (bits_add 8 n (bit_xor (bit_xor r b) (v * 2 ^ 8)))
    ∙ ap (crc_bits (8 + n)) (xor_assoc r b (v * 2 ^ 8) ∙ ap (bit_xor r) f)

-- four bytes are a word
pub word : (r a b c d : ℕ) (s : List ℕ) → a < 256 → b < 256 → c < 256
    → crc_from r (a ∷ b ∷ c ∷ d ∷ s) ≡ crc_from (crc_bits 32 (bit_xor r (a + 256 * (b + 256 * (c + 256 * d))))) s
unfolding crc_from crc_byte
word r a b c d s ha hb hc =
    ap (λ (x : ℕ). crc_from x s)
    (in_front 8 (crc_byte (crc_byte r a) b) c d hc
    ∙ in_front 16 (crc_byte r a) b (c + 256 * d) hb
    ∙ in_front 24 r a (b + 256 * (c + 256 * d)) ha)

-- a word, six bits by six
pub by_six : (x : ℕ)
    → crc_bits 32 x
    ≡ bit_xor (crc_bits 32 (x % 64)) (bit_xor (crc_bits 26 (x / 64 % 64)) (bit_xor (crc_bits 20 (x / 64 / 64 % 64)) (bit_xor (crc_bits 14 (x / 64 / 64 / 64 % 64)) (bit_xor (crc_bits 8 (x / 64 / 64 / 64 / 64 % 64)) (crc_bits 2 (x / 64 / 64 / 64 / 64 / 64))))))
by_six x =
    low_first 6 26 x
    ∙ ap (bit_xor (crc_bits 32 (x % 64))) (low_first 6 20 (x / 64)
    ∙ ap (bit_xor (crc_bits 26 (x / 64 % 64))) (low_first 6 14 (x / 64 / 64)
    ∙ ap (bit_xor (crc_bits 20 (x / 64 / 64 % 64))) (low_first 6 8 (x / 64 / 64 / 64)
    ∙ ap (bit_xor (crc_bits 14 (x / 64 / 64 / 64 % 64))) (low_first 6 2 (x / 64 / 64 / 64 / 64)))))

-- a byte, six bits and two, over the rest shifted
pub eight : (x : ℕ) → crc_bits 8 x ≡ bit_xor (crc_bits 8 (x % 64)) (bit_xor (x / 64 / 4) (crc_bits 2 (x / 64 % 4)))
eight x = low_first 6 2 x ∙ ap (bit_xor (crc_bits 8 (x % 64))) (bits_split 2 (x / 64))

module _ (s : List ℕ) (i : ℕ) where
  -- a turn by four bytes
  pub word-turn : (r : ℕ) → ((j : ℕ) → get_or s j 0 < 256) → i + 4 ≤ length s → crc_from r (drop i s) ≡ crc_from (crc_bits 32 (bit_xor r (le s i 4))) (drop (i + 4) s)
  word-turn r small h =
      let a : i < length s = omega arith in
      let b : suc i < length s = omega arith in
      let c : suc (suc i) < length s = omega arith in
      let d : suc (suc (suc i)) < length s = omega arith in
      let e₁ : suc i ≡ i + 1 = omega arith in
      let e₂ : suc (suc i) ≡ i + 2 = omega arith in
      let e₃ : suc (suc (suc i)) ≡ i + 3 = omega arith in
      let e₄ : suc (suc (suc (suc i))) ≡ i + 4 = omega arith in
      ap (crc_from r)
      (drop-cons s i 0 a
      ∙ ap (λ (t : List ℕ). get_or s i 0 ∷ t) (drop-cons s (suc i) 0 b
      ∙ ap (λ (t : List ℕ). get_or s (suc i) 0 ∷ t) (drop-cons s (suc (suc i)) 0 c
      ∙ ap (λ (t : List ℕ). get_or s (suc (suc i)) 0 ∷ t) (drop-cons s (suc (suc (suc i))) 0 d))))
      ∙ rw (e₄, e₃, e₂, e₁)
      (word r (get_or s i 0) (get_or s (i + 1) 0) (get_or s (i + 2) 0) (get_or s (i + 3) 0) (drop (i + 4) s) (small i) (small (i + 1)) (small (i + 2))
      ∙ ap (λ (v : ℕ). crc_from (crc_bits 32 (bit_xor r v)) (drop (i + 4) s)) (sym (le_four s i)))

  -- a turn by one
  pub byte-turn : (r : ℕ) → i < length s → crc_from r (drop i s) ≡ crc_from (crc_bits 8 (bit_xor r (get_or s i 0))) (drop (i + 1) s)
  unfolding crc_from crc_byte
  byte-turn r h = ap (crc_from r) (drop-cons s i 0 h) ∙ ap (λ (n : ℕ). crc_from (crc_bits 8 (bit_xor r (get_or s i 0))) (drop n s)) (sym (add-one i))

module _ (s : List ℕ) (n : ℕ) (small : (j : ℕ) → get_or s j 0 < 256) (fits : 4 * n ≤ length s) where
  abbrev piece : List ℕ
  piece = take (4 * n) s

  piece-length : length piece ≡ 4 * n
  piece-length = length-take-le (4 * n) s fits

  small_piece : (j : ℕ) → get_or piece j 0 < 256
  small_piece j = go (ltb j (4 * n)) refl
    where
      go : (b : Bool) → ltb j (4 * n) ≡ b → get_or piece j 0 < 256
      go true e = rw (get_or-take (4 * n) s j 0 (ltb-true j (4 * n) e)) (small j)
      go false e =
          let h : length piece ≤ j = omega (arith, piece-length, ltb-false j (4 * n) e) in
          rw (get_or-eq_default piece 0 h) (lit< tt)

  -- a turn through the words of a piece
  pub piece-turn : (k r : ℕ) → k < n → crc_from r (drop (4 * k) piece) ≡ crc_from (crc_bits 32 (bit_xor r (le s (4 * k) 4))) (drop (4 * (k + 1)) piece)
  piece-turn k r h =
      let e : 4 * k + 4 ≡ 4 * (k + 1) = omega arith in
      let w : le piece (4 * k) 4 ≡ le s (4 * k) 4 = le-part s 0 (4 * n) (4 * k) 4 (omega arith) ∙ ap (λ (i : ℕ). le s i 4) (zero-add (4 * k)) in
      word-turn piece (4 * k) r small_piece (omega (arith, piece-length))
      ∙ ap₂ (λ (v m : ℕ). crc_from (crc_bits 32 (bit_xor r v)) (drop m piece)) w e

  pub piece_end : (k : ℕ) → n ≤ k → drop (4 * k) piece ≡ []
  piece_end k h =
      let l : length piece ≤ 4 * k = omega (arith, piece-length) in
      drop_of_length-le piece l

-- the words of a list first, and then the rest
pub words_first : (s : List ℕ) (m r : ℕ) → crc_from (crc_from r (take m s)) (drop m s) ≡ crc_from r s
words_first s m r = sym (from_append r (take m s) (drop m s)) ∙ ap (crc_from r) (take-append-drop m s)
