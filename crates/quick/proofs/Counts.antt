-- Counting the members of a list that pass. Assumes nothing.
use mathlib.Core.Path.{◌≡◌, refl, sym, ◌∙◌}
use mathlib.Core.Logic.{inl, inr}
use mathlib.Core.Bool.{Bool, cond, false, true}
use mathlib.Core.List.{List, [], ◌∷◌}
use Prim.Native.Nat.{ℕ, ◌+◌, ◌≤◌}
use native.Mathlib.Omega.{arith}
use lib.ListN.{length}
use Rattle.entry.specs.States.{one}
use Rattle.lists.specs.Lists.{keep, sum_of}
use Rattle.lists.proofs.Member.{◌∈◌}
use Rattle.lists.proofs.Sums.{sum_ext, sum-ge, sum-keep, sum-zero}
use Rattle.table.proofs.Places.{length-sum, one_cond}

-- a list of one
pub length_one : {A : Type 0} (xs : List A) → length xs ≡ 1 → (x : A) × (xs ≡ x ∷ [])
length_one [] e = absurd (omega arith)
length_one (x ∷ []) e = (x, refl)
length_one (x ∷ (y ∷ ys)) e = absurd (omega arith)

pub one_true : (b : Bool) → b ≡ true → one b ≡ 1
one_true b e = rw e

one_none : (b : Bool) → one b ≤ 0 → b ≡ false
one_none true h = absurd (omega arith)
one_none false h = refl

-- where the count is not 0, a member passes
pub pos_in : {A : Type 0} (p : A → Bool) (xs : List A) → 1 ≤ sum_of (λ (x : A). one (p x)) xs → (x : A) × (x ∈ xs) × (p x ≡ true)
unfolding sum_of
pos_in p [] h = absurd (omega arith)
pos_in p (x ∷ xs) h = go (p x) refl h (pos_in p xs)
  where
    go : (b : Bool) → p x ≡ b → 1 ≤ one b + sum_of (λ (x : _). one (p x)) xs → (1 ≤ sum_of (λ (x : _). one (p x)) xs → (x : _) × (x ∈ xs) × (p x ≡ true))
        → (y : _) × (y ∈ (x ∷ xs)) × (p y ≡ true)
    go true q k ih = (x, inl refl, q)
    go false q k ih = let r = ih (omega arith) in (r.0, inr r.1, r.2)

-- and a member that passes is counted
pub in_pos : {A : Type 0} (p : A → Bool) (xs : List A) (x : A) → x ∈ xs → p x ≡ true → 1 ≤ sum_of (λ (y : A). one (p y)) xs
in_pos p xs x m e = let g = sum-ge (λ (y : _). one (p y)) xs x m in let z = one_true (p x) e in omega arith

-- what is kept is what is counted
pub length-keep : {A : Type 0} (p : A → Bool) (xs : List A) → length (keep p xs) ≡ sum_of (λ (x : A). one (p x)) xs
length-keep p xs = length-sum (keep p xs) ∙ sum-keep p (λ (x : _). 1) xs ∙ sym (sum_ext (λ (x : _). one (p x)) (λ (x : _). cond (p x) 1 0) xs (λ x m. one_cond (p x)))

-- where the one test holds, the other does
pub one_le : (a b : Bool) → (a ≡ true → b ≡ true) → one a ≤ one b
one_le true b h = rw (h refl) (omega arith)
one_le false b h = omega arith

-- where at most one member passes, and no other counts anything, the sum is what that one counts
pub sum-only : {A : Type 0} (p : A → Bool) (f : A → ℕ) (xs : List A) (x : A) → x ∈ xs → p x ≡ true → sum_of (λ (y : A). one (p y)) xs ≤ 1 → ((y : A) → y ∈ xs → p y ≡ false → f y ≡ 0) → sum_of f xs ≡ f x
unfolding sum_of
sum-only p f [] x m e h g = absurd m
sum-only p f (y ∷ ys) x (inl q) e h g =
    let here = one_true (p y) (rw q at e) in
    let rest = sum-zero f ys (λ z n. let k = sum-ge (λ (a : _). one (p a)) ys z n in g z (inr n) (one_none (p z) (omega arith))) in
    rw q (omega arith)
sum-only p f (y ∷ ys) x (inr m) e h g =
    let there = sum-ge (λ (a : _). one (p a)) ys x m in
    let here = one_true (p x) e in
    let first = g y (inl refl) (one_none (p y) (omega arith)) in
    let rest = sum-only p f ys x m e (omega arith) (λ z n. g z (inr n)) in
    omega arith
