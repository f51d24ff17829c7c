-- Where at most one of a group passes a test that its indices pass, a version has one index at most, and both versions of a key together. Assumes nothing.
use mathlib.Core.Path.{◌≡◌, refl, sym, ◌∙◌}
use mathlib.Core.Bool.{Bool, true, false}
use mathlib.Core.List.{List}
use Prim.Native.Nat.{ℕ, ◌+◌, ◌^◌, ◌≤◌}
use native.Mathlib.Omega.{arith}
use borrow.Author.Tests.{eqb-true}
use Rattle.entry.specs.States.{one}
use Rattle.page.proofs.Tests.{both-second}
use Rattle.lists.specs.Lists.{sum_of}
use Rattle.lists.proofs.Member.{◌∈◌}
use Rattle.lists.proofs.Sums.{sum-le, sum_plus}
use Rattle.found.specs.Found.{index_of, is_index, version_of}
use Rattle.found.proofs.Versions.{group_in}
use Rattle.versions.specs.Versions.{version_in}
use Rattle.quick.proofs.Counts.{one_le}
use Rattle.quick.proofs.Versions.{pow_pos, split_in, version_in-ne}

module _ {A : Type 0} (raw : A → List ℕ) (xs : List A) (f : ℕ → List ℕ → Bool) (most : (g : ℕ) → sum_of (λ (x : A). one (f g (raw x))) xs ≤ 1)
    (passes : (v : ℕ) (x : A) → x ∈ xs → index_of v (raw x) ≡ true → f (group_in v) (raw x) ≡ true) where
  pub one_index : (v : ℕ) → sum_of (λ (x : A). one (index_of v (raw x))) xs ≤ 1
  one_index v =
      let a = sum-le (λ (x : A). one (index_of v (raw x))) (λ (x : A). one (f (group_in v) (raw x))) xs (λ x m. one_le _ _ (passes v x m)) in
      let b = most (group_in v) in
      omega arith

  pub one_version : (g : ℕ) → sum_of (λ (x : A). one (index_of (version_in g 0) (raw x))) xs + sum_of (λ (x : A). one (index_of (version_in g 0x80) (raw x))) xs ≤ 1
  one_version g =
      let a = sum_plus (λ (x : A). one (index_of (version_in g 0) (raw x))) (λ (x : A). one (index_of (version_in g 0x80) (raw x))) xs in
      let b = sum-le (λ (x : A). one (index_of (version_in g 0) (raw x)) + one (index_of (version_in g 0x80) (raw x))) (λ (x : A). one (f g (raw x))) xs
      (λ x m. two x m (index_of (version_in g 0) (raw x)) refl (index_of (version_in g 0x80) (raw x)) refl) in
      let c = most g in
      omega arith
    where
      two : (x : A) → x ∈ xs → (a : Bool) → index_of (version_in g 0) (raw x) ≡ a → (b : Bool) → index_of (version_in g 0x80) (raw x) ≡ b → one a + one b ≤ one (f g (raw x))
      two x m false p false q = omega arith
      two x m true p false q = rw (rw (split_in (2 ^ 128) g 0 pow_pos (omega arith)) at (passes (version_in g 0) x m p)) (omega arith)
      two x m false p true q = rw (rw (split_in (2 ^ 128) g 128 pow_pos (omega arith)) at (passes (version_in g 0x80) x m q)) (omega arith)
      two x m true p true q =
          let u = eqb-true (version_of (raw x)) (version_in g 0) (both-second (is_index (raw x)) _ p) in
          let w = eqb-true (version_of (raw x)) (version_in g 0x80) (both-second (is_index (raw x)) _ q) in
          absurd (version_in-ne (2 ^ 128) g pow_pos (sym u ∙ w))
