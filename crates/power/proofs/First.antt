-- Stage 3 erases the index of a version first: where a part of it is among the first so many that go, so is its index, if it has one. Assumes nothing.
use mathlib.Core.Path.{◌∙◌, ◌≡◌, ap, refl, sym}
use mathlib.Core.Logic.{inl, ⊎_elim}
use mathlib.Core.Bool.{Bool, cond, false, true}
use mathlib.Core.List.{List, [], ◌++◌, ◌∷◌, flat_map}
use Prim.Native.Nat.{◌+◌, ◌-◌, ◌<◌, ◌≤◌, suc, zero, ℕ}
use native.Mathlib.Omega.{arith}
use lib.ListN.{length, take, drop, take-append-drop}
use lib.Seq.{take-append-add, take-append-le, take-length}
use borrow.Author.Tests.{eqb-true}
use Rattle.entry.specs.States.{one}
use Rattle.page.proofs.Tests.{both-second}
use Rattle.flash.proofs.Order.{le-or-gt}
use Rattle.lists.specs.Lists.{sum_of}
use Rattle.lists.proofs.Member.{◌∈◌, in_append, in_left}
use Rattle.lists.proofs.Search.{keep_in}
use Rattle.lists.proofs.Sums.{sum-append}
use Rattle.found.specs.Found.{Found, chunks, index_of, is_part, version_of}
use Rattle.versions.specs.Versions.{indices}
use Rattle.quick.specs.Calm.{tot}
use Rattle.quick.proofs.Counts.{length-keep, one_true}
use Rattle.power.proofs.Doomed.{goes, goes_in, sound_in}

-- one of the first so many is one of the list
pub take_in : (j : ℕ) (xs : List Found) (x : Found) → x ∈ take j xs → x ∈ xs
take_in j xs x m = rw (take-append-drop j xs) at (in_left x (take j xs) (drop j xs) m)

module _ (fs : List Found) (lone : (v : ℕ) → tot (λ (r : List ℕ). one (index_of v r)) fs ≤ 1) where
  abbrev indexed : ℕ → List Found → ℕ
  indexed v xs = tot (λ (r : List ℕ). one (index_of v r)) xs

  -- of one version
  of_version : (v j : ℕ) (x : Found) → x ∈ take j (goes fs v) → indexed v fs ≤ indexed v (take j (goes fs v))
  unfolding sum_of
  of_version v j x m = sort (sound_in fs v) m
    where
      count : indexed v fs ≡ length (indices v fs)
      count = sym (length-keep (λ (y : Found). index_of v y.raw) fs)

      at : (xs : List Found) → indices v fs ≡ xs → (k : ℕ) → x ∈ take k (xs ++ chunks v fs) → indexed v fs ≤ indexed v (take k (xs ++ chunks v fs))
      at [] e k n = let c = count ∙ ap length e in omega arith
      at (i ∷ xs) e zero n = absurd n
      at (i ∷ xs) e (suc k) n =
          let a = lone v in
          let b = one_true (index_of v i.raw) (keep_in (λ (y : Found). index_of v y.raw) fs i (rw e (inl refl))).1 in
          omega arith

      sort : (b : Bool) → x ∈ take j (cond b [] (indices v fs ++ chunks v fs)) → indexed v fs ≤ indexed v (take j (cond b [] (indices v fs ++ chunks v fs)))
      sort true n = absurd (take_in j [] x n)
      sort false n = at (indices v fs) refl j n

  version_is : (v : ℕ) (x : Found) → x ∈ goes fs v → version_of x.raw ≡ v
  version_is v x m = eqb-true (version_of x.raw) v (both-second (is_part x.raw) _ (goes_in fs v x m).1)

  -- version by version
  pub index_first : (vs : List ℕ) (j : ℕ) (x : Found) → x ∈ take j (flat_map (goes fs) vs)
      → indexed (version_of x.raw) fs ≤ indexed (version_of x.raw) (take j (flat_map (goes fs) vs))
  unfolding flat_map
  index_first [] j x m = absurd (take_in j [] x m)
  index_first (v ∷ vs) j x m = ⊎_elim within (past (λ k n. index_first vs k x n)) (le-or-gt j (length (goes fs v)))
    where
      a : List Found
      a = goes fs v

      b : List Found
      b = flat_map (goes fs) vs

      within : j ≤ length a → indexed (version_of x.raw) fs ≤ indexed (version_of x.raw) (take j (a ++ b))
      within h =
          let e = take-append-le j a b h in
          let n : x ∈ take j a = rw e at m in
          rw (e, version_is v x (take_in j a x n)) (of_version v j x n)

      beside : (k : ℕ) → ((n : x ∈ take k b) → indexed (version_of x.raw) fs ≤ indexed (version_of x.raw) (take k b)) → x ∈ (a ++ take k b)
          → indexed (version_of x.raw) fs ≤ indexed (version_of x.raw) (a ++ take k b)
      beside k ih n =
          let s = sum-append (λ (y : Found). one (index_of (version_of x.raw) y.raw)) a (take k b) in
          ⊎_elim (λ i. let o = first i in omega arith) (λ i. let o = ih i in omega arith) (in_append x a (take k b) n)
        where
          first : x ∈ a → indexed (version_of x.raw) fs ≤ indexed (version_of x.raw) a
          first i = rw (version_is v x i) (rw (take-length a) at (of_version v (length a) x (rw (take-length a) i)))

      past : ((k : ℕ) → x ∈ take k b → indexed (version_of x.raw) fs ≤ indexed (version_of x.raw) (take k b)) → length a < j
          → indexed (version_of x.raw) fs ≤ indexed (version_of x.raw) (take j (a ++ b))
      past ih h =
          let q : j ≡ length a + (j - length a) = omega arith in
          let e : take j (a ++ b) ≡ a ++ take (j - length a) b = ap (λ (k : ℕ). take k (a ++ b)) q ∙ take-append-add a b (j - length a) in
          rw e (beside (j - length a) (ih (j - length a)) (rw e at m))
