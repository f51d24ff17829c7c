-- A version's chunks are exactly those that are counted: for each number one below the count and none from it on; and what makes them so. Assumes nothing.
use mathlib.Core.Path.{◌≡◌, refl, sym, ◌∙◌}
use mathlib.Core.Bool.{Bool, true, false, cond, ◌&&◌}
use mathlib.Core.List.{List}
use Prim.Native.Nat.{ℕ, ◌+◌, ◌≤◌, ◌<◌}
use native.Mathlib.Omega.{arith}
use lib.Dec.{eqb, ltb}
use borrow.Author.Tests.{eq-eqb, eqb-true, lt-ltb, ltb-true, ltb-false}
use Rattle.entry.specs.States.{one}
use Rattle.entry.specs.Fields.{chunk_number, index_count}
use Rattle.page.proofs.Tests.{both_first, both_is, both-second}
use Rattle.lists.specs.Lists.{sum_of, sum_to}
use Rattle.lists.proofs.Member.{◌∈◌}
use Rattle.lists.proofs.Sums.{sum_ext, sum-ge, sum-le, sum_plus}
use Rattle.lists.proofs.Range.{sum_to_ext, sum_to-full}
use Rattle.lists.proofs.Numbers.{by_number, sum_to_one}
use Rattle.lists.proofs.Passing.{all_at, all_to_lem}
use Rattle.found.specs.Found.{Found, chunk_of}
use Rattle.versions.specs.Versions.{chunk_numbered, exact, sound}

module _ (v : ℕ) (fs : List Found) where
  -- how many chunks the version has of the number n, and in all
  abbrev pub numbered : ℕ → ℕ
  numbered n = sum_of (λ (x : Found). one (chunk_numbered v n x.raw)) fs

  abbrev counted : ℕ
  counted = sum_of (λ (x : Found). one (chunk_of v x.raw)) fs

  -- those with a number below c, number by number
  below : (c : ℕ) → sum_to numbered c ≡ sum_of (λ (x : Found). cond (ltb (chunk_number x.raw) c) (one (chunk_of v x.raw)) 0) fs
  below c =
      sum_to_ext numbered _ c (λ n h. sum_ext _ (λ (x : Found). cond (eqb (chunk_number x.raw) n) (one (chunk_of v x.raw)) 0) fs (λ x m. go (chunk_of v x.raw) (eqb (chunk_number x.raw) n)))
      ∙ by_number (λ (x : Found). one (chunk_of v x.raw)) (λ (x : Found). chunk_number x.raw) fs c
    where
      go : (a b : Bool) → one (a && b) ≡ cond b (one a) 0
      go true true = refl
      go true false = refl
      go false true = refl
      go false false = refl

  module _ (c : ℕ) where
    -- with one of each number below the count there is no other
    pub exact-numbers : exact v fs c ≡ true → (n : ℕ) → numbered n ≡ one (ltb n c)
    unfolding exact
    exact-numbers e n = go (ltb n c) refl
      where
        each : (k : ℕ) → k < c → numbered k ≡ 1
        each k h = eqb-true _ 1 (all_at (λ (j : ℕ). eqb (numbered j) 1) c (both-second (eqb c counted) _ e) k h)

        apart : (k : ℕ) → c ≤ n → (a : Bool) → cond (ltb k c) (one a) 0 + one (a && eqb k n) ≤ one a
        apart k h a = two (ltb k c) refl (eqb k n) refl a
          where
            two : (b : Bool) → ltb k c ≡ b → (d : Bool) → eqb k n ≡ d → (a : Bool) → cond b (one a) 0 + one (a && d) ≤ one a
            two true p true q a = let g = ltb-true k c p in let f = eqb-true k n q in absurd (omega arith)
            two true p false q true = omega arith
            two true p false q false = omega arith
            two false p true q true = omega arith
            two false p true q false = omega arith
            two false p false q true = omega arith
            two false p false q false = omega arith

        go : (b : Bool) → ltb n c ≡ b → numbered n ≡ one b
        go true q = each n (ltb-true n c q)
        go false q =
            let h = ltb-false n c q in
            let all = eqb-true c counted (both_first (eqb c counted) _ e) in
            let full = sum_to_ext numbered (λ (j : ℕ). 1) c each ∙ sum_to_one c in
            let both = sum_plus (λ (x : Found). cond (ltb (chunk_number x.raw) c) (one (chunk_of v x.raw)) 0) (λ (x : Found). one (chunk_numbered v n x.raw)) fs in
            let most = sum-le _ (λ (x : Found). one (chunk_of v x.raw)) fs (λ x m. apart (chunk_number x.raw) (omega arith) (chunk_of v x.raw)) in
            omega (arith, below c)

    -- where none has a number from the count on, all have one below it
    module _ (most : (n : ℕ) → numbered n ≤ one (ltb n c)) where
      all_below : counted ≡ sum_to numbered c
      all_below = sum_ext _ _ fs (λ x m. go x m (chunk_of v x.raw) refl (ltb (chunk_number x.raw) c) refl) ∙ sym (below c)
        where
          go : (x : Found) → x ∈ fs → (a : Bool) → chunk_of v x.raw ≡ a → (b : Bool) → ltb (chunk_number x.raw) c ≡ b → one a ≡ cond b (one a) 0
          go x m false p true q = refl
          go x m false p false q = refl
          go x m true p true q = refl
          go x m true p false q =
              let k = chunk_number x.raw in
              let a = sum-ge (λ (y : Found). one (chunk_numbered v k y.raw)) fs x m in
              let here : one (chunk_numbered v k x.raw) ≡ 1 = rw (p, eq-eqb k k refl) in
              let z : one (ltb k c) ≡ 0 = rw q in
              absurd (omega (arith, most k))

      -- as many chunks as are counted, no number twice and none from the count on: so each number is there
      pub exact-full : counted ≡ c → exact v fs c ≡ true
      unfolding exact
      exact-full e =
          both_is _ _ (eq-eqb c counted (sym e))
          (all_to_lem _ c (λ n h. eq-eqb (numbered n) 1 (sum_to-full numbered c (λ u k. at_most u) (sym all_below ∙ e) n h)))
        where
          at_most : (u : ℕ) → numbered u ≤ 1
          at_most u = go (ltb u c) refl
            where
              go : (b : Bool) → ltb u c ≡ b → numbered u ≤ 1
              go true q = let z : one (ltb u c) ≡ 1 = rw q in omega (arith, most u)
              go false q = let z : one (ltb u c) ≡ 0 = rw q in omega (arith, most u)

    -- and so the other way
    pub numbers-exact : ((n : ℕ) → numbered n ≡ one (ltb n c)) → exact v fs c ≡ true
    numbers-exact h =
        let most : (n : ℕ) → numbered n ≤ one (ltb n c) = λ n. omega (arith, h n) in
        exact-full most (all_below most ∙ sum_to_ext numbered (λ (j : ℕ). 1) c (λ n k. h n ∙ rw (lt-ltb n c k)) ∙ sum_to_one c)

-- a sound version has exactly one chunk of each number below the count, and none from it on
pub sound-exact : (v : ℕ) (fs : List Found) (i : Found) → sound v fs i ≡ true → (n : ℕ) → numbered v fs n ≡ one (ltb n (index_count i.raw))
unfolding sound
sound-exact v fs i e = exact-numbers v fs (index_count i.raw) (both_first (exact v fs (index_count i.raw)) _ e)
