-- Rule. Document 01, Cases, the listing program: its text as bytes, and what a function that puts text into lent bytes leaves there. Assumes nothing.
use Rattle.std.specs.Prelude.{◌≡◌, cond, List, [], ◌∷◌, ◌++◌, ℕ, zero, suc, ◌/◌, ◌%◌, ◌≤◌, ltb, length, take, drop}
use Prim.Native.Char.{code}
use Prim.Native.String.{String, [] as ends, ◌∷◌ as ◌then◌}
use Rattle.io.specs.Digits.{hex_digit_ascii}

-- a word, each character by its code
abbrev pub word : String → List ℕ
word ends = []
word (c then s) = code c ∷ word s

abbrev pub space : List ℕ
space = word " "

abbrev pub newline : List ℕ
newline = word "\n"

-- n in decimal: its last digit, behind those of n / 10 where n has more than one. The turns bound the recursion, and n of them are enough.
unfoldable pub spelled : ℕ → ℕ → List ℕ
spelled zero n = hex_digit_ascii n ∷ []
spelled (suc turns) n = cond (ltb n 10) (hex_digit_ascii n ∷ []) (spelled turns (n / 10) ++ (hex_digit_ascii (n % 10) ∷ []))

unfoldable pub decimal : ℕ → List ℕ
decimal n = spelled n n

-- a name and a number, each behind a space
abbrev pub field : List ℕ → ℕ → List ℕ
field name n = space ++ (name ++ (space ++ decimal n))

-- the bytes xs became ys by putting s at a place, and r is the place behind it: what has no room is left out, what stands further on stays
pub record Put (xs : List ℕ) (at : ℕ) (s ys : List ℕ) (r : ℕ) : Type 0 where
  pub room : length ys ≡ length xs
  pub onward : at ≤ r
  pub fits : r ≤ length ys
  pub text : take r ys ≡ take (length xs) (take at xs ++ s)
  pub rest : drop r ys ≡ drop r xs
