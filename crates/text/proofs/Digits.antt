-- The digits that `io::decimal` puts are the number's text. Assumes nothing.
use mathlib.Core.Path.{◌≡◌, ap, subst}
use mathlib.Core.List.{List, [], ◌∷◌, ◌++◌}
use Prim.Native.Nat.{ℕ, zero, suc, ◌*◌, ◌/◌, ◌%◌, ◌^◌, ◌≤◌, ◌<◌}
use native.Mathlib.Nat.{pow-suc, one-le-pow, mod-eq_of_lt, div-lt_self, div-lt_iff_lt-mul, le-div_iff_mul-le}
use native.Mathlib.Omega.{arith}
use borrow.Author.Tests.{lt-ltb, le-ltb}
use Rattle.io.specs.Digits.{hex_digit_ascii, last_digits, IsDigitCount}
use Rattle.text.specs.Text.{spelled, decimal}

-- of a number that takes two digits or more
module _ (n j : ℕ) (few : IsDigitCount 10 1 n (suc (suc j))) where
  least : 10 ^ j * 10 ≤ n
  least = subst (λ (k : ℕ). k ≤ n) (pow-suc 10 j) (subst (λ (i : ℕ). 10 ^ i ≤ n) (omega arith) (few.2 (omega arith)))

  ten : 10 ≤ n
  ten = omega (arith, least, one-le-pow j 10 (omega arith))

  tenth : IsDigitCount 10 1 (n / 10) (suc j)
  tenth = (
    omega arith,
    (div-lt_iff_lt-mul {k = 10} (omega arith)).1 (subst (λ (k : ℕ). n < k) (pow-suc 10 (suc j)) few.1),
    λ h. subst (λ (i : ℕ). 10 ^ i ≤ n / 10) (omega arith) ((le-div_iff_mul-le {k = 10} (omega arith)).1 least),
  )

  less : n / 10 < n
  less = div-lt_self (omega (arith, ten)) (omega arith)

spells : (turns n k : ℕ) → n ≤ turns → IsDigitCount 10 1 n k → last_digits 10 k n ≡ spelled turns n
unfolding spelled
spells turns n zero h few = absurd (omega (arith, few.0))
spells zero n (suc zero) h few = rw (mod-eq_of_lt {n = n} {m = 10} few.1)
spells zero n (suc (suc j)) h few = absurd (omega (arith, ten n j few))
spells (suc turns) n (suc zero) h few = rw (mod-eq_of_lt {n = n} {m = 10} few.1, lt-ltb n 10 few.1)
spells (suc turns) n (suc (suc j)) h few =
    rw (le-ltb n 10 (ten n j few))
    (ap (λ (ds : List ℕ). ds ++ (hex_digit_ascii (n % 10) ∷ [])) (spells turns (n / 10) (suc j) (omega (arith, less n j few)) (tenth n j few)))

pub digits_are : (n k : ℕ) → IsDigitCount 10 1 n k → last_digits 10 k n ≡ decimal n
unfolding decimal
digits_are n k few = spells n n k (omega arith) few
