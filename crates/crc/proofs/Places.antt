-- An entry of the table by its place, from one law on lists of values. Assumes nothing.
use mathlib.Core.Path.{◌≡◌, refl, sym, ap, ap₂, ◌∙◌}
use mathlib.Core.List.{List}
use Prim.Native.Nat.{ℕ, zero, suc, ◌+◌, ◌-◌, ◌*◌, ◌/◌, ◌%◌, ◌<◌}
use native.Mathlib.Nat.{add-zero, zero-add, add-suc, suc-add, le_of_suc-le-suc, not-suc-le-zero}
use native.Mathlib.Omega.{arith}
use lib.ListN.{get_or}
use Rattle.crc.specs.Crc.{crc_bits, crc_bit}
use Rattle.crc.specs.declared.TheConstants.{TABLE}
use Rattle.crc.specs.Table.{values, entry_of, crc_table}

from : (f : ℕ → ℕ) (n i k : ℕ) → k < n → get_or (values f i n) k 0 ≡ f (i + k)
from f zero i k h = absurd (not-suc-le-zero h)
from f (suc n) i zero h = ap f (sym (add-zero i))
from f (suc n) i (suc k) h = from f n (suc i) k (le_of_suc-le-suc h) ∙ ap f (suc-add i k ∙ sym (add-suc i k))

value : (f : ℕ → ℕ) (n k : ℕ) → k < n → get_or (values f 0 n) k 0 ≡ f k
value f n k h = from f n 0 k h ∙ ap f (zero-add k)

-- the constant is the table: antt computes the rule at each of the 324 places and compares
pub table_right : TABLE ≡ crc_table
unfolding crc_table entry_of crc_bits crc_bit
table_right = refl

-- what is read at place j for the bits n
pub at_place : (j n k : ℕ) → n < 64 → k ≡ n + 64 * j → k < 324 → get_or TABLE k 0 ≡ crc_bits (32 - 6 * j) n
unfolding crc_table entry_of
at_place j n k h q l =
    let a : k / 64 ≡ j = omega arith in
    let b : k % 64 ≡ n = omega arith in
    ap (λ (x : List ℕ). get_or x k 0) table_right ∙ value entry_of 324 k l ∙ ap₂ (λ (x y : ℕ). crc_bits (32 - 6 * x) y) a b
