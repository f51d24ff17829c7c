-- A key of bytes is a number below 2 ^ 128, and what is read of an image is bytes. Assumes nothing.
use mathlib.Core.List.{List}
use Prim.Native.Nat.{◌+◌, ◌-◌, ◌*◌, ◌<◌, ◌^◌, suc, zero, ℕ}
use native.Mathlib.Nat.{pow-suc}
use native.Mathlib.Omega.{arith}
use lib.Arith.{digits_lt}
use lib.ListN.{get_or}
use Rattle.word.specs.Number.{be, number, part}
use Rattle.entry.specs.Fields.{key_number, key_of, span_of}
use Rattle.flash.proofs.Small.{part_small}
use Rattle.found.specs.Places.{item_at}

number_lt : (f : ℕ → ℕ) → ((j : ℕ) → f j < 256) → (n : ℕ) → number f n < 256 ^ n
number_lt f h zero = omega arith
number_lt f h (suc n) =
    let a = number_lt (λ j. f (suc j)) (λ j. h (suc j)) n in
    let b = h 0 in
    rw (pow-suc 256 n) (omega arith)

be-lt : (r : List ℕ) → ((i : ℕ) → get_or r i 0 < 256) → (at : ℕ) → be r at 8 < 2 ^ 64
unfolding be
be-lt r h at = number_lt (λ j. get_or r (at + (8 - suc j)) 0) (λ j. h (at + (8 - suc j))) 8

-- two halves of eight bytes
pub key-lt : (r : List ℕ) → ((i : ℕ) → get_or r i 0 < 256) → key_number (key_of r) < 2 ^ 128
unfolding key_of
key-lt r h = digits_lt (be-lt r h 8) (be-lt r h 16)

pub item_key : (l : List ℕ) (p : ℕ) → ((i : ℕ) → get_or l i 0 < 256) → key_number (key_of (item_at l p).raw) < 2 ^ 128
unfolding item_at
item_key l p h = key-lt (item_at l p).raw (part_small l (p * 32) (span_of (part l (p * 32) 32) * 32) h)
