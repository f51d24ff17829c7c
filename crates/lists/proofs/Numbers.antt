-- Sums by number: over the numbers below a limit, and over a list whose members have numbers. Assumes nothing.
use mathlib.Core.Path.{◌≡◌, refl, ap, ◌∙◌}
use mathlib.Core.Bool.{Bool, true, false, cond}
use mathlib.Core.List.{List}
use Prim.Native.Nat.{ℕ, zero, suc, ◌+◌}
use native.Mathlib.Omega.{arith}
use lib.Dec.{eqb, ltb}
use borrow.Author.Tests.{eqb-true, eqb-false, ltb-true, ltb-false, le-ltb}
use Rattle.lists.specs.Lists.{sum_of, sum_to}
use Rattle.lists.proofs.Sums.{sum_ext, sum_plus, sum-zero}

pub sum_to_one : (n : ℕ) → sum_to (λ j. 1) n ≡ n
unfolding sum_to
sum_to_one zero = refl
sum_to_one (suc n) = let a = sum_to_one n in omega arith

module _ {A : Type 0} (f number : A → ℕ) (xs : List A) where
  one_more : (n v : ℕ) (a : Bool) → ltb v n ≡ a → (b : Bool) → eqb v n ≡ b → (c : Bool) → ltb v (suc n) ≡ c → (x : ℕ) → cond a x 0 + cond b x 0 ≡ cond c x 0
  one_more n v true p true q c r x = let g = ltb-true v n p in let e = eqb-true v n q in absurd (omega arith)
  one_more n v true p false q true r x = omega arith
  one_more n v true p false q false r x = let g = ltb-true v n p in let e = ltb-false v (suc n) r in absurd (omega arith)
  one_more n v false p true q true r x = omega arith
  one_more n v false p true q false r x = let e = eqb-true v n q in let g = ltb-false v (suc n) r in absurd (omega arith)
  one_more n v false p false q true r x = let g = ltb-false v n p in let e = ltb-true v (suc n) r in absurd (eqb-false v n q (omega arith))
  one_more n v false p false q false r x = refl

  -- the sums of those with each number, summed: the sum of those with a number below n
  pub by_number : (n : ℕ) → sum_to (λ j. sum_of (λ (x : A). cond (eqb (number x) j) (f x) 0) xs) n ≡ sum_of (λ (x : A). cond (ltb (number x) n) (f x) 0) xs
  unfolding sum_to
  by_number zero =
      let e = sum-zero (λ (x : A). cond (ltb (number x) 0) (f x) 0) xs (λ y m. rw (le-ltb (number y) 0 (omega arith))) in
      omega arith
  by_number (suc n) =
      let a = sum_plus (λ (x : A). cond (ltb (number x) n) (f x) 0) (λ (x : A). cond (eqb (number x) n) (f x) 0) xs in
      let b = sum_ext (λ (x : A). cond (ltb (number x) n) (f x) 0 + cond (eqb (number x) n) (f x) 0) (λ (x : A). cond (ltb (number x) (suc n)) (f x) 0) xs
      (λ y m. one_more n (number y) (ltb (number y) n) refl (eqb (number y) n) refl (ltb (number y) (suc n)) refl (f y)) in
      let c = by_number n in
      ap (λ (k : ℕ). k + sum_of (λ (x : A). cond (eqb (number x) n) (f x) 0) xs) c ∙ a ∙ b
