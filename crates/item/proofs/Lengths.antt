-- How many steps an item takes: of a span of n entries n to erase it, one at least, and no more than ten times n to copy it. Assumes nothing.
use mathlib.Core.Path.{◌≡◌}
use mathlib.Core.Bool.{Bool, true, false, cond}
use mathlib.Core.List.{List, [], ◌∷◌, ◌++◌}
use Prim.Native.Nat.{ℕ, ◌+◌, ◌*◌, ◌≤◌}
use native.Mathlib.Omega.{arith}
use lib.Dec.{eqb}
use lib.ListN.{length, length-append}
use Rattle.entry.specs.Fields.{span_of}
use Rattle.page.specs.State.{all_ones}
use Rattle.flash.specs.Step.{erase, sector}
use Rattle.flash.specs.Words.{words}
use Rattle.flash.proofs.Words.{length-words}
use Rattle.marking.proofs.Spans.{length-marking, length-unmarking}
use Rattle.item.specs.Copy.{full_mark, copying}
use Rattle.item.specs.Erase.{erasing}
use Rattle.item.specs.Initialise.{clearing, initialising}
use Rattle.item.specs.Mark.{page_state}
use Rattle.marking.specs.Marking.{marking}

pub length-erasing : (s i n : ℕ) → length (erasing s i n) ≡ n
unfolding erasing
length-erasing s i n = length-unmarking (s * 4096) i n

full_most : (base next : ℕ) → length (full_mark base next) ≤ 1
unfolding full_mark
full_most base next = go (eqb next 126)
  where
    go : (b : Bool) → length (cond b (page_state base 0xFC ∷ []) []) ≤ 1
    go true = omega arith
    go false = omega arith

pub copying_most : (base j : ℕ) (r : List ℕ) → 1 ≤ span_of r → length (copying base j r) ≤ 10 * span_of r
unfolding copying
copying_most base j r h =
    let n = span_of r in
    let w = words (base + 64 + j * 32) r 0 (n * 8) in
    let s = marking base j n in
    omega (arith, length-append w (s ++ full_mark base (j + n)), length-append s (full_mark base (j + n)), length-words (base + 64 + j * 32) r 0 (n * 8), length-marking base j n, full_most base (j + n))

clearing_most : (s : ℕ) (l : List ℕ) → length (clearing s l) ≤ 1
unfolding clearing
clearing_most s l = go (all_ones (sector s l))
  where
    go : (b : Bool) → length (cond b [] (erase s ∷ [])) ≤ 1
    go true = omega arith
    go false = omega arith

pub initialising_most : (s : ℕ) (h l : List ℕ) → length (initialising s h l) ≤ 9
unfolding initialising
initialising_most s h l =
    let w = words (s * 4096) h 1 7 in
    let v = words (s * 4096) h 0 1 in
    omega (arith, length-append (clearing s l) (w ++ v), length-append w v, length-words (s * 4096) h 1 7, length-words (s * 4096) h 0 1, clearing_most s l)
