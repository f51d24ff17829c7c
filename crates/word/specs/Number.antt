-- Rule. Document 01, Sector layout: bytes and the numbers they make, "numbers little-endian". Assumes nothing.
use Rattle.std.specs.Prelude.{List, ℕ, zero, suc, ◌+◌, ◌-◌, ◌*◌, get_or, take, drop}

-- the n bytes of s from `at` on
abbrev pub part : List ℕ → ℕ → ℕ → List ℕ
part s at n = take n (drop at s)

-- the number whose n bytes are f 0, f 1, .., the lowest first
abbrev pub number : (ℕ → ℕ) → ℕ → ℕ
number f zero = 0
number f (suc n) = f 0 + 256 * number (λ j. f (suc j)) n

-- "numbers little-endian": the n bytes of s from `at` on, the lowest first
unfoldable pub le : List ℕ → ℕ → ℕ → ℕ
le s at n = number (λ j. get_or s (at + j) 0) n

-- the same bytes with the first one highest: the order of such numbers is the order of the bytes, compared from the first on
unfoldable pub be : List ℕ → ℕ → ℕ → ℕ
be s at n = number (λ j. get_or s (at + (n - suc j)) 0) n
