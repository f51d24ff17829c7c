-- What stage 3 erases is each part of a version that is not sound, once, and nothing else. Assumes nothing.
use mathlib.Core.Path.{◌∙◌, ◌≡◌, refl, sym}
use mathlib.Core.Logic.{inl, inr}
use mathlib.Core.Bool.{Bool, ◌&&◌, cond, false, not, true}
use mathlib.Core.Option.{Option, none, some}
use mathlib.Core.List.{List, [], ◌++◌, ◌∷◌}
use Prim.Native.Nat.{suc, zero, ℕ}
use native.Mathlib.Omega.{arith}
use lib.Dec.{eqb}
use lib.ListN.{length}
use borrow.Author.Tests.{eq-eqb, eqb-true, ne_eqb}
use Rattle.page.proofs.Tests.{both_first, both_is, both-second}
use Rattle.lists.specs.Lists.{ascend_from, ascend_to, ascending, keep, least_from, sum_of}
use Rattle.lists.proofs.Member.{◌∈◌, cond_same}
use Rattle.lists.proofs.Search.{in_keep}
use Rattle.lists.proofs.Sums.{sum_ext, sum-keep, sum-keep-le, sum_plus, sum-zero}
use Rattle.lists.proofs.Maps.{flat_map_in, in_map, sum-flat_map}
use Rattle.lists.proofs.Ascending.{ascend_from_lem, in_ascending}
use Rattle.found.specs.Found.{Found, chunks, is_part, version_of}
use Rattle.versions.specs.Versions.{indices}
use Rattle.duplicates.proofs.Once.{Once, once-fewer}
use Rattle.quick.specs.Calm.{part_of}
use Rattle.power.proofs.Doomed.{doomed, goes, goes_in, goes-sum, sound_in, versions}

-- ---- the numbers of a list ascending: each stands there once
module _ (k m : ℕ) where
  abbrev at : ℕ → ℕ
  at v = cond (eqb k v) m 0

  other : (v : ℕ) → (k ≡ v → ⊥) → at v ≡ 0
  other v h = rw (ne_eqb k v h)

  from_once : (n u : ℕ) (cs : List ℕ) → k ∈ ascend_from n u cs → sum_of at (ascend_from n u cs) ≡ m
  unfolding ascend_from ascend_to sum_of
  from_once zero u cs i = absurd i
  from_once (suc n) u cs i = go (least_from u cs) i (λ w. from_once n (suc w) cs)
    where
      go : (o : Option ℕ) → k ∈ ascend_to (λ (w : ℕ). ascend_from n (suc w) cs) o → ((w : ℕ) → k ∈ ascend_from n (suc w) cs → sum_of at (ascend_from n (suc w) cs) ≡ m)
          → sum_of at (ascend_to (λ (w : ℕ). ascend_from n (suc w) cs) o) ≡ m
      go none j ih = absurd j
      go (some w) (inl e) ih =
          let a : at w ≡ m = rw (eq-eqb k w e) in
          let b = sum-zero at (ascend_from n (suc w) cs) (λ v j. other v (λ q. let h = ascend_from_lem n (suc w) cs v j in absurd (omega arith))) in
          omega arith
      go (some w) (inr j) ih = let h = ascend_from_lem n (suc w) cs k j in let a = other w (λ q. absurd (omega arith)) in let b = ih w j in omega arith

  ascending-once : (cs : List ℕ) → k ∈ ascending cs → sum_of at (ascending cs) ≡ m
  unfolding ascending
  ascending-once cs i = from_once (length cs) 0 cs i

-- so what is taken number by number is all that has one of the numbers
by_number : {A : Type 0} (number f : A → ℕ) (vs : List ℕ) (xs : List A) → ((x : A) → x ∈ xs → sum_of (λ (v : ℕ). cond (eqb (number x) v) (f x) 0) vs ≡ f x)
    → sum_of (λ (v : ℕ). sum_of (λ (x : A). cond (eqb (number x) v) (f x) 0) xs) vs ≡ sum_of f xs
unfolding sum_of
by_number number f vs [] h = sum-zero (λ (v : ℕ). 0) vs (λ v m. refl)
by_number number f vs (x ∷ xs) h =
    let a = sum_plus (λ (v : ℕ). cond (eqb (number x) v) (f x) 0) (λ (v : ℕ). sum_of (λ (y : _). cond (eqb (number y) v) (f y) 0) xs) vs in
    let b = h x (inl refl) in
    let c = by_number number f vs xs (λ y m. h y (inr m)) in
    omega arith

-- ---- a part of a version that is not sound
abbrev pub lost : List Found → List ℕ → Bool
lost fs r = is_part r && not (sound_in fs (version_of r))

module _ (fs : List Found) where
  pub doomed_in : (x : Found) → x ∈ doomed fs → (x ∈ fs) × (lost fs x.raw ≡ true)
  doomed_in x m =
      let r = flat_map_in (goes fs) (versions fs) x m in
      let k = goes_in fs r.0 x r.2 in
      let w = eqb-true (version_of x.raw) r.0 (both-second (is_part x.raw) _ k.1) in
      (k.0, both_is (is_part x.raw) _ (both_first (is_part x.raw) _ k.1) (rw w (go r.0 (sound_in fs r.0) refl r.2)))
    where
      go : (v : ℕ) (b : Bool) → sound_in fs v ≡ b → x ∈ cond b [] (indices v fs ++ chunks v fs) → not (sound_in fs v) ≡ true
      go v true e n = absurd n
      go v false e n = rw e

  module _ (f : Found → ℕ) where
    abbrev part : Found → ℕ
    part x = cond (lost fs x.raw) (f x) 0

    -- of one version
    of_version : (v : ℕ) → sum_of f (goes fs v) ≡ sum_of (λ (x : Found). cond (eqb (version_of x.raw) v) (part x) 0) fs
    of_version v = go (sound_in fs v) refl
      where
        each : (b : Bool) → sound_in fs v ≡ b → (x : Found) → cond (part_of v x.raw) (cond (not b) (f x) 0) 0 ≡ cond (eqb (version_of x.raw) v) (part x) 0
        each b e x = two (eqb (version_of x.raw) v) refl (is_part x.raw)
          where
            two : (c : Bool) → eqb (version_of x.raw) v ≡ c → (p : Bool) → cond (p && c) (cond (not b) (f x) 0) 0 ≡ cond c (cond (p && not (sound_in fs (version_of x.raw))) (f x) 0) 0
            two true q true = rw (eqb-true (version_of x.raw) v q, e)
            two true q false = refl
            two false q true = refl
            two false q false = refl

        go : (b : Bool) → sound_in fs v ≡ b → sum_of f (goes fs v) ≡ sum_of (λ (x : Found). cond (eqb (version_of x.raw) v) (part x) 0) fs
        go true e = let z : sum_of f (goes fs v) ≡ 0 = unfold sum_of in rw e in z ∙ sym (sum-zero _ fs (λ x m. sym (each true e x) ∙ cond_same (part_of v x.raw)))
        go false e = goes-sum fs v e f ∙ sum_ext _ _ fs (λ x m. each false e x)

    -- each stands in its version, and each version is taken once
    pub doomed-sum : sum_of f (doomed fs) ≡ sum_of (λ (x : Found). cond (lost fs x.raw) (f x) 0) fs
    doomed-sum =
        sum-flat_map f (goes fs) (versions fs)
        ∙ sum_ext _ _ (versions fs) (λ v m. of_version v)
        ∙ by_number (λ (x : Found). version_of x.raw) part (versions fs) fs (λ x m. go x m (is_part x.raw) refl)
      where
        go : (x : Found) → x ∈ fs → (p : Bool) → is_part x.raw ≡ p → sum_of (λ (v : ℕ). cond (eqb (version_of x.raw) v) (part x) 0) (versions fs) ≡ part x
        go x m true e =
            let n = in_keep (λ (y : Found). is_part y.raw) fs x m e in
            ascending-once (version_of x.raw) (part x) _ (in_ascending _ _ (in_map (λ (y : Found). version_of y.raw) (keep (λ (y : Found). is_part y.raw) fs) x n))
        go x m false e = rw e (sum-zero _ (versions fs) (λ v n. cond_same (eqb (version_of x.raw) v)))

  -- "no item is erased twice in a stage": what stands at different places goes from different places
  pub doomed-once : Once fs → Once (doomed fs)
  doomed-once o =
      once-fewer fs (doomed fs)
      (λ f. let a = doomed-sum f in let b = sum-keep (λ (x : Found). lost fs x.raw) f fs in let c = sum-keep-le (λ (x : Found). lost fs x.raw) f fs in omega arith) o
