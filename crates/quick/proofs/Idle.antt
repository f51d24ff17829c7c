-- Stages 3 and 4 make no step where the items are calm. Assumes nothing.
use mathlib.Core.Path.{◌∙◌, ◌≡◌, fun_ext, refl, sym}
use mathlib.Core.Bool.{Bool, ◌||◌, cond, false, true}
use mathlib.Core.Option.{Option, none, some}
use mathlib.Core.List.{List, [], ◌∷◌, flat_map, map}
use Prim.Native.Nat.{◌+◌, ◌≤◌, ℕ}
use native.Mathlib.Omega.{arith}
use lib.Dec.{eqb, ltb}
use borrow.Author.Tests.{eq-eqb}
use Rattle.entry.specs.States.{one}
use Rattle.entry.specs.Fields.{index_count, index_size}
use Rattle.page.proofs.Tests.{both_first, both_is, both-second}
use Rattle.lists.specs.Lists.{ascending, best, better, keep, sort_by}
use Rattle.lists.proofs.Sums.{sum-kept_one}
use Rattle.lists.proofs.Search.{best_in, keep_in}
use Rattle.lists.proofs.Maps.{flat_map_none, map_in}
use Rattle.lists.proofs.Sorting.{drop_last_short, length-sort}
use Rattle.lists.proofs.Ascending.{ascending_in}
use Rattle.lists.proofs.Member.{◌∈◌, true≢false}
use Rattle.found.specs.Found.{Found, erase_all, group_of, index_of, is_index, is_part, newer, version_of}
use Rattle.versions.specs.Versions.{both_sound, counting, indices, judge, judge_with, older, older_with, sound, sound_one, version_in}
use Rattle.versions.proofs.Exact.{numbers-exact}
use Rattle.blobs.specs.Blobs.{blob_steps}
use Rattle.duplicates.specs.Duplicates.{duplicate_steps, groups, members, older_than, once_each, outdated}
use Rattle.quick.specs.Calm.{Calm, in_group, part_of, tot}
use Rattle.quick.proofs.Counts.{in_pos, length-keep, length_one}

-- the newest index of the two versions of group g
abbrev pub newest_of : ℕ → List Found → Option Found
newest_of g fs = best newer (keep (λ (x : Found). index_of (version_in g 0) x.raw || index_of (version_in g 0x80) x.raw) fs)

-- calm is a fact of the sums alone
pub calm_same : (S T : (List ℕ → ℕ) → ℕ) → ((f : List ℕ → ℕ) → S f ≡ T f) → Calm T → Calm S
calm_same S T h C = let e : S ≡ T = fun_ext h in rw e C

pub erase_all-nil : (xs : List Found) → xs ≡ [] → erase_all xs ≡ []
unfolding erase_all flat_map
erase_all-nil xs e = rw e

-- ---- of two versions of a key none is the older where they have one index at most
-- a version that is sound has an index
has-index : (fs : List Found) (v : ℕ) → sound_one v fs (counting v fs) ≡ true → 1 ≤ tot (λ (r : List ℕ). one (index_of v r)) fs
has-index fs v e = go (counting v fs) refl e
  where
    go : (o : Option Found) → counting v fs ≡ o → sound_one v fs o ≡ true → 1 ≤ tot (λ (r : List ℕ). one (index_of v r)) fs
    go none q k = unfold sound_one in absurd (true≢false k refl)
    go (some i) q k =
        let m = keep_in (λ (x : Found). index_of v x.raw) fs i (best_in newer (indices v fs) i (unfold counting in q)) in
        in_pos (λ (x : Found). index_of v x.raw) fs i m.0 m.1

pub older-idle : (fs : List Found) (g : ℕ) → tot (λ (r : List ℕ). one (index_of (version_in g 0) r)) fs + tot (λ (r : List ℕ). one (index_of (version_in g 0x80) r)) fs ≤ 1
    → older fs g ≡ []
unfolding older both_sound
older-idle fs g h = go (both_sound fs (version_in g 0) (version_in g 0x80)) refl
  where
    go : (b : Bool) → both_sound fs (version_in g 0) (version_in g 0x80) ≡ b → cond b (older_with (version_in g 0) (version_in g 0x80) fs (newest_of g fs)) [] ≡ []
    go false q = refl
    go true q =
        let a = has-index fs (version_in g 0) (both_first (sound_one (version_in g 0) fs (counting (version_in g 0) fs)) _ q) in
        let b = has-index fs (version_in g 0x80) (both-second (sound_one (version_in g 0) fs (counting (version_in g 0) fs)) _ q) in
        absurd (omega arith)

-- ---- stage 4 erases nothing where no group has two items
module _ (fs : List Found) (single : (g : ℕ) → tot (λ (r : List ℕ). one (in_group g r)) fs ≤ 1) where
  outdated_none : (g : ℕ) → outdated fs g ≡ []
  unfolding outdated flat_map
  outdated_none g =
      let a = single g in
      let b = length-keep (λ (x : Found). in_group g x.raw) fs in
      let c = length-sort older_than (members g fs) in
      rw (drop_last_short (sort_by older_than (members g fs)) (omega arith))

  pub duplicates_none : duplicate_steps fs ≡ []
  unfolding duplicate_steps once_each
  duplicates_none = rw (flat_map_none (outdated fs) (groups fs) (λ g m. outdated_none g)) (erase_all-nil [] refl)

-- ---- from the sums to idleness
module _ (fs : List Found) (C : Calm (λ (f : List ℕ → ℕ). tot f fs)) where
  pub index-only : (v : ℕ) → 1 ≤ tot (λ (r : List ℕ). one (index_of v r)) fs → (i : Found) × (indices v fs ≡ i ∷ [])
  index-only v h = let a = C.lone v in let b = length-keep (λ (x : Found). index_of v x.raw) fs in length_one (indices v fs) (omega arith)

  pub sound_is : (v : ℕ) (i : Found) → indices v fs ≡ i ∷ [] → 1 ≤ tot (λ (r : List ℕ). one (index_of v r)) fs → sound v fs i ≡ true
  unfolding sound
  sound_is v i e h =
      let b = sum-kept_one (λ (x : Found). index_of v x.raw) (λ (x : Found). index_size x.raw) fs i e in
      both_is _ _ (numbers-exact v fs (index_count i.raw) (λ n. C.each v h n ∙ sum-kept_one (λ (x : Found). index_of v x.raw) (λ (x : Found). one (ltb n (index_count x.raw))) fs i e)) (eq-eqb _ _ (sym b ∙ C.size v h))

  judge-idle : (v : ℕ) → 1 ≤ tot (λ (r : List ℕ). one (part_of v r)) fs → judge fs v ≡ []
  unfolding judge judge_with counting best better
  judge-idle v h =
      let n = C.has v h in
      let i = index-only v n in
      rw (i.1, sound_is v i.0 i.1 n)

  -- stage 3 makes no step
  pub blob_idle : blob_steps fs ≡ []
  unfolding blob_steps
  blob_idle =
      let p = flat_map_none (judge fs) (ascending (map (λ (x : Found). version_of x.raw) (keep (λ (x : Found). is_part x.raw) fs))) (λ v m. one_version v (ascending_in _ v m)) in
      let q = flat_map_none (older fs) (ascending (map (λ (x : Found). group_of x.raw) (keep (λ (x : Found). is_index x.raw) fs))) (λ g m. older-idle fs g (C.not-both g)) in
      rw (p, q)
    where
      one_version : (v : ℕ) → v ∈ map (λ (x : Found). version_of x.raw) (keep (λ (x : Found). is_part x.raw) fs) → judge fs v ≡ []
      one_version v m =
          let r = map_in (λ (x : Found). version_of x.raw) (keep (λ (x : Found). is_part x.raw) fs) v m in
          let k = keep_in (λ (x : Found). is_part x.raw) fs r.0 r.1 in
          judge-idle v (in_pos (λ (x : Found). part_of v x.raw) fs r.0 k.0 (both_is (is_part r.0.raw) (eqb (version_of r.0.raw) v) k.1 (eq-eqb _ v (sym r.2))))

  -- and stage 4 erases nothing
  pub duplicate_idle : duplicate_steps fs ≡ []
  duplicate_idle = duplicates_none fs C.single
