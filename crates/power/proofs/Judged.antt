-- What stage 3 makes of what is left of the store: it is left so again wherever it is cut, and at its end what recovery keeps. Assumes nothing.
use mathlib.Core.Path.{◌∙◌, ◌≡◌, ap, fun_ext, refl, sym}
use mathlib.Core.Bool.{Bool, ◌&&◌, cond, false, not, true}
use mathlib.Core.List.{List}
use Prim.Native.Nat.{◌+◌, ◌^◌, ◌≤◌, ℕ}
use native.Mathlib.Omega.{arith}
use lib.Dec.{eqb, ltb}
use lib.ListN.{take}
use borrow.Author.Tests.{eq-eqb, eqb-false, eqb-true, ltb-true}
use Rattle.entry.specs.States.{one}
use Rattle.entry.specs.Fields.{key_number, key_of, namespace_of, span_of}
use Rattle.page.proofs.Tests.{both_first, both_is, both-second, not-false, not-true}
use Rattle.flash.specs.Step.{run}
use Rattle.lists.proofs.Member.{◌∈◌, refuted}
use Rattle.lists.proofs.Sums.{sum_ext, sum-ge, sum_plus}
use Rattle.table.specs.declared.Page.{Page}
use Rattle.found.specs.Found.{Found, erase_all, found, index_of, is_index, is_part, version_of}
use Rattle.versions.specs.Versions.{sound}
use Rattle.blobs.specs.Blobs.{blob_steps}
use Rattle.duplicates.proofs.Once.{Once}
use Rattle.quick.specs.Calm.{in_group, part_of, tot}
use Rattle.quick.proofs.Counts.{one_true}
use Rattle.power.specs.Demand3.{stored, total}
use Rattle.power.proofs.Calm.{Tidy, lone}
use Rattle.power.proofs.Doomed.{blobs-are, doomed, sound_is, sound_by_same, sound_in, versions}
use Rattle.power.proofs.Erasing.{Stands}
use Rattle.power.proofs.First.{index_first, take_in}
use Rattle.power.proofs.Gone.{doomed_in, doomed-once, doomed-sum, lost}
use Rattle.power.proofs.Left.{Left, fewer, left_without, same_sum, sound_same, sound_of}
use Rattle.power.proofs.Listing.{Lists, listed-once, listed-stands, listed-total}
use Rattle.power.proofs.Without.{Without, erased_all, erased-cut}

-- a part of an unsound version of the store: no other item is erased
abbrev pub unsound : List ℕ → List ℕ → Bool
unsound L r = is_part r && not (sound_of L (version_of r))

-- what is asked of the items of the store, in sums, so that it goes over to what is left of them
pub record Fit (L : List ℕ) : Type 0 where
  pub keys : total (λ (r : List ℕ). one (not (ltb (key_number (key_of r)) (2 ^ 128)))) L ≡ 0
  pub part_in_0 : total (λ (r : List ℕ). one (is_part r && eqb (namespace_of r) 0)) L ≡ 0
  pub alone : (g : ℕ) → total (λ (r : List ℕ). one (in_group g r)) L ≤ 1
  pub one_entry : total (λ (r : List ℕ). one (is_index r && (not (sound_of L (version_of r)) && not (eqb (span_of r) 1)))) L ≡ 0

-- the items that recovery leaves of the store, and no other
abbrev pub Keeps : List ℕ → List ℕ → Type 0
Keeps L m = (f : List ℕ → ℕ) → total f m ≡ total (λ (r : List ℕ). cond (unsound L r) 0 (f r)) L

total_plus : (f g : List ℕ → ℕ) (l : List ℕ) → total f l + total g l ≡ total (λ (r : List ℕ). f r + g r) l
unfolding total
total_plus f g l = sum_plus _ _ (stored l)

module _ (L : List ℕ) (F : Fit L) (l : List ℕ) (K : Left L l) (ps : List Page) (P : Lists l ps) where
  abbrev fs : List Found
  fs = found ps l

  same : (f : List ℕ → ℕ) → tot f fs ≡ total f l
  same f = listed-total l ps P f

  -- ---- what is asked of the store holds of the items found
  none_in : (p : List ℕ → Bool) → total (λ (r : List ℕ). one (p r)) L ≡ 0 → (x : Found) → x ∈ fs → p x.raw ≡ false
  none_in p z x m = refuted (p x.raw) (λ e.
      let a = sum-ge (λ (y : Found). one (p y.raw)) fs x m in
      let b = one_true (p x.raw) e in
      let c = same (λ (r : List ℕ). one (p r)) in
      let d = fewer L l K (λ (r : List ℕ). one (p r)) in
      omega arith)

  tidy : Tidy fs
  tidy x m = (
    ltb-true (key_number (key_of x.raw)) (2 ^ 128) (not-false _ (none_in (λ (r : List ℕ). not (ltb (key_number (key_of r)) (2 ^ 128))) F.keys x m)),
    λ e. above (namespace_of x.raw) (rw e at (none_in (λ (r : List ℕ). is_part r && eqb (namespace_of r) 0) F.part_in_0 x m)),
  )
    where
      above : (n : ℕ) → eqb n 0 ≡ false → 1 ≤ n
      above n e = let h = eqb-false n 0 e in omega arith

  pub single : (g : ℕ) → tot (λ (r : List ℕ). one (in_group g r)) fs ≤ 1
  single g = let a = same (λ (r : List ℕ). one (in_group g r)) in let b = fewer L l K (λ (r : List ℕ). one (in_group g r)) in let c = F.alone g in omega arith

  sound_found : (v : ℕ) → sound_in fs v ≡ sound_of L v
  sound_found v =
      sound_by_same (λ (f : List ℕ → ℕ). tot f fs) (λ (f : List ℕ → ℕ). total f l) v (λ g. same (λ (r : List ℕ). cond (part_of v r) (g r) 0)) ∙ sound_same L l K v

  short : (i : Found) → i ∈ fs → is_index i.raw ≡ true → sound (version_of i.raw) fs i ≡ false → span_of i.raw ≡ 1
  short i m e s =
      let v = version_of i.raw in
      let u : sound_of L v ≡ false = sym (sound_found v) ∙ sym (sound_is fs tidy single v i m (both_is _ _ e (eq-eqb v v refl))) ∙ s in
      eqb-true (span_of i.raw) 1 (not-false _ (rw (e, u) at (none_in (λ (r : List ℕ). is_index r && (not (sound_of L (version_of r)) && not (eqb (span_of r) 1))) F.one_entry i m)))

  -- ---- so what goes is erased item by item, of each version the index first
  abbrev ds : List Found
  ds = doomed fs

  pub blob_steps_lem : blob_steps fs ≡ erase_all ds
  blob_steps_lem = blobs-are fs tidy single short

  stands : (x : Found) → x ∈ ds → Stands l x
  stands x m = listed-stands l ps P x (doomed_in fs x m).0

  once : Once ds
  once = doomed-once fs (listed-once l ps P)

  lost_same : (r : List ℕ) → lost fs r ≡ unsound L r
  lost_same r = rw (sound_found (version_of r))

  parts : (x : Found) → x ∈ ds → (is_part x.raw ≡ true) × (sound_of L (version_of x.raw) ≡ false)
  parts x m =
      let e = sym (lost_same x.raw) ∙ (doomed_in fs x m).1 in
      (both_first (is_part x.raw) _ e, not-true _ (both-second (is_part x.raw) _ e))

  left_of : (j : ℕ) (m : List ℕ) → Without l (take j ds) m → Left L m
  left_of j m W = left_without L l K (take j ds) m W (λ x i. parts x (take_in j ds x i)) (λ x i.
      let v = version_of x.raw in
      let a = index_first fs (lone fs tidy single) (versions fs) j x i in
      let b = W.sums (λ (r : List ℕ). one (index_of v r)) in
      let c = same (λ (r : List ℕ). one (index_of v r)) in
      omega arith)

  pub blobs-cut : (k : ℕ) → Left L (run (take k (erase_all ds)) l)
  blobs-cut k = let c = erased-cut ds l stands once k in left_of c.0 _ c.1

  pub blobs-done : Without l ds (run (erase_all ds) l)
  blobs-done = erased_all ds l stands once

  -- ---- and what is kept is all that stands at its end
  pub blobs-keep : Keeps L (run (erase_all ds) l)
  blobs-keep f =
      let a = blobs-done.sums f in
      let b = doomed-sum fs (λ (x : Found). f x.raw) ∙ sum_ext _ _ fs (λ x i. rw (lost_same x.raw)) ∙ same (λ (r : List ℕ). cond (unsound L r) (f r) 0) in
      let c = total_plus (λ (r : List ℕ). cond (unsound L r) (f r) 0) (λ (r : List ℕ). cond (unsound L r) 0 (f r)) l ∙ ap (λ (g : List ℕ → ℕ). total g l) (fun_ext (λ r. split (f r) (unsound L r))) in
      let d = same_sum L l K (λ (r : List ℕ). cond (unsound L r) 0 (f r)) (λ r i. let z = K.doomed r i in rw (z.0, z.1)) in
      omega arith
    where
      split : (n : ℕ) (b : Bool) → cond b n 0 + cond b 0 n ≡ n
      split n true = omega arith
      split n false = omega arith
