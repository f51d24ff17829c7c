-- The scan lists each sector of the image once, as a page or as free. Assumes nothing.
use mathlib.Core.Path.{◌≡◌, refl}
use mathlib.Core.Logic.{◌⊎◌, inl, inr}
use mathlib.Core.Bool.{Bool, true, false, cond}
use mathlib.Core.List.{List, [], ◌∷◌, ◌++◌}
use Prim.Native.Nat.{ℕ, zero, suc, ◌+◌, ◌≤◌, ◌<◌}
use native.Mathlib.Omega.{arith}
use lib.Dec.{eqb, ltb}
use lib.ListN.{length, length-append}
use borrow.Author.Tests.{lt-ltb, le-ltb, eqb-true, ne_eqb}
use Rattle.entry.specs.States.{one}
use Rattle.flash.specs.Step.{sector}
use Rattle.flash.proofs.Order.{le-or-gt}
use Rattle.page.specs.State.{state_of, is_free}
use Rattle.lists.specs.Lists.{sum_of}
use Rattle.lists.proofs.Sums.{sum-append}
use Rattle.table.specs.declared.Page.{Page}
use Rattle.table.specs.Table.{sectors_of, page_at, pages_to, frees_to, pages, frees, in_sector}
use Rattle.table.specs.PagesPlaced.{times_in, PagesPlaced}

-- one sector more
below_more : (u n : ℕ) → one (ltb u n) + one (eqb n u) ≤ one (ltb u (suc n))
below_more u n = go (le-or-gt n u)
  where
    go : (n ≤ u) ⊎ (u < n) → one (ltb u n) + one (eqb n u) ≤ one (ltb u (suc n))
    go (inr h) = rw (lt-ltb u n h, lt-ltb u (suc n) (omega arith), ne_eqb n u (λ e. omega arith)) (omega arith)
    go (inl h) = rw (le-ltb u n h) (beside (eqb n u) refl)
      where
        beside : (b : Bool) → eqb n u ≡ b → one false + one b ≤ one (ltb u (suc n))
        beside true e = let q = eqb-true n u e in rw (lt-ltb u (suc n) (omega arith)) (omega arith)
        beside false e = omega arith

module _ (l : List ℕ) where
  times_to : (u n : ℕ) → times_in u (pages_to l n) (frees_to l n) ≤ one (ltb u n)
  unfolding times_in pages_to frees_to sum_of
  times_to u zero = omega arith
  times_to u (suc n) = go (is_free (state_of (sector n l))) (times_to u n)
    where
      go : (b : Bool) → times_in u (pages_to l n) (frees_to l n) ≤ one (ltb u n)
          → times_in u (pages_to l n ++ cond b [] (page_at n l ∷ [])) (frees_to l n ++ cond b (n ∷ []) []) ≤ one (ltb u (suc n))
      go true h =
          let a = sum-append (λ (p : Page). one (in_sector u p)) (pages_to l n) [] in
          let b = sum-append (λ (s : ℕ). one (eqb s u)) (frees_to l n) (n ∷ []) in
          omega (arith, below_more u n)
      go false h =
          let a = sum-append (λ (p : Page). one (in_sector u p)) (pages_to l n) (page_at n l ∷ []) in
          let b = sum-append (λ (s : ℕ). one (eqb s u)) (frees_to l n) [] in
          omega (arith, below_more u n)

  length_to : (n : ℕ) → length (pages_to l n) + length (frees_to l n) ≡ n
  unfolding pages_to frees_to
  length_to zero = refl
  length_to (suc n) = go (is_free (state_of (sector n l))) (length_to n)
    where
      go : (b : Bool) → length (pages_to l n) + length (frees_to l n) ≡ n → length (pages_to l n ++ cond b [] (page_at n l ∷ [])) + length (frees_to l n ++ cond b (n ∷ []) []) ≡ suc n
      go true h = let a = length-append (pages_to l n) [] in let b = length-append (frees_to l n) (n ∷ []) in omega arith
      go false h = let a = length-append (pages_to l n) (page_at n l ∷ []) in let b = length-append (frees_to l n) [] in omega arith

  pub pages_placed : sectors_of l ≤ 16 → PagesPlaced (sectors_of l) (pages l) (frees l)
  unfolding pages frees
  pages_placed h = record { once = λ u. times_to u (sectors_of l); sixteen = omega (arith, length_to (sectors_of l)) }
