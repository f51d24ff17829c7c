-- A number read from bytes, taken apart again. Assumes nothing.
use mathlib.Core.Path.{◌≡◌, refl, sym, ap, ap₂, ◌∙◌}
use mathlib.Core.List.{List}
use Prim.Native.Nat.{ℕ, zero, suc, ◌+◌, ◌-◌, ◌*◌, ◌/◌, ◌%◌, ◌^◌, ◌<◌, ◌≤◌}
use native.Mathlib.Nat.{add_assoc, add-zero, div-div-eq-div-mul, pow-suc, mul_comm, not-suc-le-zero, le_of_suc-le-suc, zero-lt-suc}
use native.Mathlib.Omega.{arith}
use lib.ListN.{get_or, drop, length-take, length-drop}
use lib.Seq.{ext_get_or, get_or-take, get_or-drop}
use Rattle.word.specs.Number.{part, number, le, be}

-- four bytes, written out
pub le_four : (s : List ℕ) (at : ℕ) → le s at 4 ≡ get_or s at 0 + 256 * (get_or s (at + 1) 0 + 256 * (get_or s (at + 2) 0 + 256 * get_or s (at + 3) 0))
unfolding le
le_four s at = rw add-zero (omega arith)

-- the q-th byte
pub byte : (f : ℕ → ℕ) → ((j : ℕ) → f j < 256) → (n q : ℕ) → q < n → number f n / 256 ^ q % 256 ≡ f q
byte f small zero q h = absurd (not-suc-le-zero h)
byte f small (suc n) zero h = omega (arith, small 0)
byte f small (suc n) (suc q) h =
    let r = number (λ j. f (suc j)) n in
    let e : (f 0 + 256 * r) / 256 ≡ r = omega (arith, small 0) in
    ap (λ (x : ℕ). (f 0 + 256 * r) / x % 256) (pow-suc 256 q ∙ mul_comm (256 ^ q) 256)
    ∙ ap (λ (x : ℕ). x % 256) (sym (div-div-eq-div-mul (f 0 + 256 * r) 256 (256 ^ q)) ∙ ap (λ (x : ℕ). x / 256 ^ q) e)
    ∙ byte (λ j. f (suc j)) (λ j. small (suc j)) n q (le_of_suc-le-suc h)

-- a number goes by its bytes alone
pub number_ext : (f g : ℕ → ℕ) (n : ℕ) → ((j : ℕ) → j < n → f j ≡ g j) → number f n ≡ number g n
number_ext f g zero h = refl
number_ext f g (suc n) h =
    ap₂ (λ (a b : ℕ). a + 256 * b) (h 0 (zero-lt-suc n)) (number_ext (λ j. f (suc j)) (λ j. g (suc j)) n (λ j l. h (suc j) (omega arith)))

-- and is no greater where no byte is
number-le : (f g : ℕ → ℕ) (n : ℕ) → ((j : ℕ) → j < n → f j ≤ g j) → number f n ≤ number g n
number-le f g zero h = omega arith
number-le f g (suc n) h =
    let a = h 0 (zero-lt-suc n) in
    let b = number-le (λ j. f (suc j)) (λ j. g (suc j)) n (λ j l. h (suc j) (omega arith)) in
    omega arith

pub le-le : (s t : List ℕ) (at n : ℕ) → ((j : ℕ) → j < n → get_or s (at + j) 0 ≤ get_or t (at + j) 0) → le s at n ≤ le t at n
unfolding le
le-le s t at n h = number-le (λ j. get_or s (at + j) 0) (λ j. get_or t (at + j) 0) n h

-- a byte of a part
pub part-byte : (s : List ℕ) (at n i : ℕ) → i < n → get_or (part s at n) i 0 ≡ get_or s (at + i) 0
part-byte s at n i h = get_or-take n (drop at s) i 0 h ∙ get_or-drop at s i 0

module _ (s : List ℕ) (at n k m : ℕ) (fits : k + m ≤ n) where
  -- a part of a part
  pub part-part : part (part s at n) k m ≡ part s (at + k) m
  part-part =
      ext_get_or 0 _ _ (simp (length-take, length-drop) (omega arith)) (λ i g.
      let b : i < m = omega (arith, simp (length-take, length-drop) at g) in
      part-byte (part s at n) k m i b ∙ part-byte s at n (k + i) (omega arith)
      ∙ ap (λ (x : ℕ). get_or s x 0) (sym (add_assoc at k i)) ∙ sym (part-byte s (at + k) m i b))

  -- a number of a part
  pub le-part : le (part s at n) k m ≡ le s (at + k) m
  unfolding le
  le-part =
      number_ext (λ j. get_or (part s at n) (k + j) 0) (λ j. get_or s (at + k + j) 0) m
      (λ j l. part-byte s at n (k + j) (omega arith) ∙ ap (λ (i : ℕ). get_or s i 0) (sym (add_assoc at k j)))

  pub be-part : be (part s at n) k m ≡ be s (at + k) m
  unfolding be
  be-part =
      number_ext (λ j. get_or (part s at n) (k + (m - suc j)) 0) (λ j. get_or s (at + k + (m - suc j)) 0) m
      (λ j l. part-byte s at n (k + (m - suc j)) (omega arith) ∙ ap (λ (i : ℕ). get_or s i 0) (sym (add_assoc at k (m - suc j))))
