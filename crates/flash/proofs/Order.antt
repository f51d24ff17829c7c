-- Of two numbers one is at most the other, by the test of it. Assumes nothing.
use mathlib.Core.Path.{◌≡◌, refl}
use mathlib.Core.Logic.{◌⊎◌, inl, inr}
use mathlib.Core.Bool.{Bool, true, false}
use Prim.Native.Nat.{ℕ, ◌≤◌, ◌<◌}
use lib.Dec.{leb}
use borrow.Author.Tests.{leb-true, leb-false}

pub le-or-gt : (x n : ℕ) → (x ≤ n) ⊎ (n < x)
le-or-gt x n = go (leb x n) refl
  where
    go : (b : Bool) → leb x n ≡ b → (x ≤ n) ⊎ (n < x)
    go true e = inl (leb-true x n e)
    go false e = inr (leb-false x n e)
