-- The answer is `Ok` where the steps fit the allowance, and `stopped` where they do not. Assumes nothing.
use Rattle.std.specs.Prelude.{Ok}
use mathlib.Core.Path.{◌≡◌, sym, ap, ◌∙◌}
use mathlib.Core.Logic.{◌⊎◌, inl, inr}
use Prim.Native.Nat.{ℕ, ◌+◌, ◌-◌, ◌≤◌, ◌<◌}
use native.Mathlib.Omega.{arith}
use borrow.Author.Tests.{le-leb, lt-leb}
use Rattle.flash.specs.Did.{ran, stopped}
use Rattle.flash.proofs.Order.{le-or-gt}

module _ (n x : ℕ) where
  pub ran_le : x ≤ n → ran n x ≡ Ok (n - x)
  unfolding ran
  ran_le h = rw (le-leb x n h)

  pub ran-gt : n < x → ran n x ≡ stopped
  unfolding ran
  ran-gt h = rw (lt-leb x n h)

  pub ran-done : (k : ℕ) → Ok k ≡ ran n x → (x ≤ n) × (k ≡ n - x)
  ran-done k e = go (le-or-gt x n)
    where
      go : (x ≤ n) ⊎ (n < x) → (x ≤ n) × (k ≡ n - x)
      go (inl h) = let q = ran_le h in (h, cc)
      go (inr h) = let q = ran-gt h in let z : ◌≡◌ {A = ℕ} 0 1 = cc in omega arith

  pub ran-stopped : stopped ≡ ran n x → n < x
  ran-stopped e = go (le-or-gt x n)
    where
      go : (x ≤ n) ⊎ (n < x) → n < x
      go (inl h) = let q = ran_le h in let z : ◌≡◌ {A = ℕ} 0 1 = cc in omega arith
      go (inr h) = h

-- what is left after x steps pays for y more
pub ran-sub : (n x y : ℕ) → x ≤ n → ran (n - x) y ≡ ran n (x + y)
ran-sub n x y h = go (le-or-gt y (n - x))
  where
    go : (y ≤ n - x) ⊎ (n - x < y) → ran (n - x) y ≡ ran n (x + y)
    go (inl g) = ran_le (n - x) y g ∙ ap Ok (omega arith) ∙ sym (ran_le n (x + y) (omega arith))
    go (inr g) = ran-gt (n - x) y g ∙ sym (ran-gt n (x + y) (omega arith))
