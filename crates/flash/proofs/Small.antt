-- Steps leave bytes where there were bytes. Assumes nothing.
use mathlib.Core.List.{List, [], ◌∷◌, ◌++◌}
use Prim.Native.Nat.{ℕ, zero, suc, ◌+◌, ◌*◌, ◌<◌}
use native.Mathlib.Omega.{arith}
use lib.ListN.{length, get_or, take, drop}
use lib.Seq.{get_or-drop}
use Rattle.word.specs.Number.{part}
use Rattle.flash.specs.Step.{Step, program, erase, put, and_word, blank, sector, erased, apply, run}
use Rattle.flash.proofs.Lower.{put-le}

abbrev pub Small : List ℕ → Type 0
Small l = (i : ℕ) → get_or l i 0 < 256

small_append : (xs ys : List ℕ) → Small xs → Small ys → Small (xs ++ ys)
small_append [] ys h k i = k i
small_append (x ∷ xs) ys h k zero = h zero
small_append (x ∷ xs) ys h k (suc i) = small_append xs ys (λ j. h (suc j)) k i

small_take : (n : ℕ) (xs : List ℕ) → Small xs → Small (take n xs)
small_take zero xs h i = omega arith
small_take (suc n) [] h i = omega arith
small_take (suc n) (x ∷ xs) h zero = h zero
small_take (suc n) (x ∷ xs) h (suc i) = small_take n xs (λ j. h (suc j)) i

-- a part of bytes is bytes
pub part_small : (l : List ℕ) (a n : ℕ) → Small l → Small (part l a n)
part_small l a n h = small_take n (drop a l) (λ j. rw (get_or-drop a l j 0) (h (a + j)))

small_blank : (n : ℕ) → Small (blank n)
unfolding blank
small_blank zero i = omega arith
small_blank (suc n) zero = omega arith
small_blank (suc n) (suc i) = small_blank n i

apply_small : (s : Step) (l : List ℕ) → Small l → Small (apply s l)
unfolding apply and_word erased
apply_small (program at b0 b1 b2 b3) l h i =
    let a = put-le l at b0 i in
    let b = put-le (put l at b0) (at + 1) b1 i in
    let c = put-le (put (put l at b0) (at + 1) b1) (at + 2) b2 i in
    let d = put-le (put (put (put l at b0) (at + 1) b1) (at + 2) b2) (at + 3) b3 i in
    omega (arith, h i)
apply_small (erase s) l h i =
    small_append (take (s * 4096) l) (blank (length (sector s l)) ++ drop (s * 4096 + 4096) l) (small_take (s * 4096) l h)
    (small_append (blank (length (sector s l))) (drop (s * 4096 + 4096) l) (small_blank (length (sector s l))) (λ j. rw (get_or-drop (s * 4096 + 4096) l j 0) (h (s * 4096 + 4096 + j)))) i

pub run_small : (ss : List Step) (l : List ℕ) → Small l → Small (run ss l)
unfolding run
run_small [] l h = h
run_small (s ∷ ss) l h = run_small ss (apply s l) (apply_small s l h)
