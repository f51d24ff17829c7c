-- Where each number below a limit passes. Assumes nothing.
use mathlib.Core.Path.{◌≡◌, refl}
use mathlib.Core.Bool.{Bool, true, false, cond}
use Prim.Native.Nat.{ℕ, zero, suc, ◌<◌}
use native.Mathlib.Omega.{arith}
use lib.Dec.{eqb}
use borrow.Author.Tests.{eqb-true, eqb-false}
use Rattle.lists.specs.Lists.{all_to}
use Rattle.lists.proofs.Member.{true≢false}

pub all_to_lem : (p : ℕ → Bool) (n : ℕ) → ((u : ℕ) → u < n → p u ≡ true) → all_to p n ≡ true
unfolding all_to
all_to_lem p zero h = refl
all_to_lem p (suc n) h = rw (h n (omega arith)) (all_to_lem p n (λ u k. h u (omega arith)))

pub all_at : (p : ℕ → Bool) (n : ℕ) → all_to p n ≡ true → (u : ℕ) → u < n → p u ≡ true
unfolding all_to
all_at p zero e u h = absurd (omega arith)
all_at p (suc n) e u h = go (p n) refl e (λ f. all_at p n f u)
  where
    go : (b : Bool) → p n ≡ b → cond b (all_to p n) false ≡ true → (all_to p n ≡ true → u < n → p u ≡ true) → p u ≡ true
    go false q f ih = absurd (true≢false f refl)
    go true q f ih = last (eqb u n) refl
      where
        last : (c : Bool) → eqb u n ≡ c → p u ≡ true
        last true r = rw (eqb-true u n r) q
        last false r = let k : (u ≡ n → ⊥) = eqb-false u n r in ih f (omega arith)

-- it goes by the tests
pub all_to_ext : (p q : ℕ → Bool) (n : ℕ) → ((u : ℕ) → u < n → p u ≡ q u) → all_to p n ≡ all_to q n
unfolding all_to
all_to_ext p q zero h = refl
all_to_ext p q (suc n) h = rw (h n (omega arith), all_to_ext p q n (λ u k. h u (omega arith)))
