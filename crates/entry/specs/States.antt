-- Rule. Document 01, Sector layout: the entry states of a sector t and their totals. Assumes nothing.
use Rattle.std.specs.Prelude.{Bool, true, false, List, ℕ, zero, suc, ◌+◌, ◌*◌, ◌/◌, ◌%◌, ◌^◌, eqb, get_or}
use Rattle.entry.specs.declared.states.Totals.{Totals}

-- "3 Empty, 2 Written, 0 Erased, 1 Illegal"
abbrev pub empty : ℕ
empty = 3

abbrev pub written : ℕ
written = 2

abbrev pub erased : ℕ
erased = 0

abbrev pub illegal : ℕ
illegal = 1

-- "Entry i has two bits in byte 32 + i/4, shifted by 2 x (i mod 4)"
unfoldable pub state_at : List ℕ → ℕ → ℕ
state_at t i = get_or t (32 + i / 4) 0 / 2 ^ (2 * (i % 4)) % 4

abbrev pub one : Bool → ℕ
one true = 1
one false = 0

-- how many of f 0, .., f (n - 1) are v
unfoldable pub count_of : (ℕ → ℕ) → ℕ → ℕ → ℕ
count_of f v zero = 0
count_of f v (suc n) = count_of f v n + one (eqb (f n) v)

-- how many of the 126 entries have the state v: "The two pairs past entry 125 never count."
abbrev pub count_state : List ℕ → ℕ → ℕ
count_state t v = count_of (state_at t) v 126

-- the four totals of a sector
unfoldable pub totals_of : List ℕ → Totals
totals_of t = record { written = count_state t written; erased = count_state t erased; empty = count_state t empty; illegal = count_state t illegal }
