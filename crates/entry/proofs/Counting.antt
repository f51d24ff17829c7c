-- Counting entries, over their number. Assumes nothing.
use mathlib.Core.Path.{◌≡◌, refl, sym, ap, ap₂, ◌∙◌}
use mathlib.Core.Bool.{Bool, false, true}
use Prim.Native.Nat.{ℕ, zero, suc, ◌+◌, ◌<◌, ◌≤◌}
use native.Mathlib.Nat.{add-zero, add-suc, add_assoc, le-suc, le_trans, le_refl}
use native.Mathlib.Omega.{arith}
use lib.Dec.{eqb}
use Rattle.entry.specs.States.{count_of, one}

module _ (v : ℕ) where
  -- what is counted is what stands at each place
  pub count_ext : (f g : ℕ → ℕ) (n : ℕ) → ((j : ℕ) → j < n → f j ≡ g j) → count_of f v n ≡ count_of g v n
  unfolding count_of
  count_ext f g zero h = refl
  count_ext f g (suc n) h =
      ap₂ (λ (a b : ℕ). a + one (eqb b v)) (count_ext f g n (λ j l. h j (le_trans l (le-suc n)))) (h n (le_refl (suc n)))

  -- the first places, and the rest
  pub count_add : (f : ℕ → ℕ) (a b : ℕ) → count_of f v (a + b) ≡ count_of f v a + count_of (λ j. f (a + j)) v b
  unfolding count_of
  count_add f a zero = ap (count_of f v) (add-zero a) ∙ sym (add-zero (count_of f v a))
  count_add f a (suc b) =
      ap (count_of f v) (add-suc a b) ∙ ap (λ (x : ℕ). x + one (eqb (f (a + b)) v)) (count_add f a b)
      ∙ add_assoc (count_of f v a) (count_of (λ j. f (a + j)) v b) (one (eqb (f (a + b)) v))

  -- the first place, and the rest
  pub count_first : (f : ℕ → ℕ) (n : ℕ) → count_of f v (suc n) ≡ count_of (λ j. f (suc j)) v n + one (eqb (f 0) v)
  unfolding count_of
  count_first f zero = refl
  count_first f (suc n) =
      ap (λ (x : ℕ). x + one (eqb (f (suc n)) v)) (count_first f n) ∙ omega arith

  -- at most all of them
  pub count-le : (f : ℕ → ℕ) (n : ℕ) → count_of f v n ≤ n
  unfolding count_of
  count-le f zero = omega arith
  count-le f (suc n) = let h = count-le f n in one_more (eqb (f n) v) h
    where
      one_more : (b : Bool) → count_of f v n ≤ n → count_of f v n + one b ≤ suc n
      one_more true h = omega arith
      one_more false h = omega arith
