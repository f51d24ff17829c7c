-- Where stage 3 or the duplicates of stage 4 make a step, one of their steps erases the header of an item that was found. Assumes nothing.
use mathlib.Core.Path.{◌≡◌, refl, ap, ◌∙◌}
use mathlib.Core.Logic.{◌⊎◌, inl, inr}
use mathlib.Core.Bool.{Bool, cond, false, true}
use mathlib.Core.Option.{Option, none, some}
use mathlib.Core.List.{List, [], ◌++◌, ◌∷◌, flat_map}
use Prim.Native.Nat.{◌*◌, ◌+◌, ◌-◌, ◌≤◌, ℕ}
use native.Mathlib.Omega.{arith}
use lib.Dec.{eqb}
use Rattle.entry.specs.Fields.{span_of}
use Rattle.flash.specs.Step.{Step}
use Rattle.marking.specs.Marking.{state_step, unmarking}
use Rattle.item.specs.Erase.{erasing}
use Rattle.marking.proofs.Spans.{unmarking-append}
use Rattle.marking.proofs.Turns.{unmarking_one}
use Rattle.lists.proofs.Search.{best_in, keep_in}
use Rattle.lists.proofs.Member.{◌∈◌, in_left, in_right}
use Rattle.found.specs.Found.{Found, chunk_of, chunks, erase_all, index_of, newer, version_of}
use Rattle.versions.specs.Versions.{both_sound, counting, drop_counting, drop_version, indices, judge, judge_with, older, older_with, sound, version_in}
use Rattle.blobs.specs.Blobs.{blob_steps}
use Rattle.duplicates.specs.Duplicates.{duplicate_steps}
use Rattle.duplicates.proofs.Grouping.{erased_in}
use Rattle.found.proofs.Spanned.{Spanned}
use Rattle.quick.proofs.Idle.{newest_of}

abbrev head_step : Found → Step
head_step x = state_step (x.sector * 4096) 3 x.entry

-- one of the steps erases the header of an item that was found
abbrev pub Hit : List Found → List Step → Type 0
Hit fs ss = (x : Found) × (x ∈ fs) × (head_step x ∈ ss)

-- in a part of the list
pub hit_left : (fs : List Found) (a b : List Step) → Hit fs a → Hit fs (a ++ b)
hit_left fs a b h = (h.0, h.1, in_left _ a b h.2)

hit_right : (fs : List Found) (a b : List Step) → Hit fs b → Hit fs (a ++ b)
hit_right fs a b h = (h.0, h.1, in_right _ a b h.2)

-- the header's step is the last of an erasure
erasing-hit : (fs : List Found) (x : Found) (n : ℕ) → x ∈ fs → 1 ≤ n → Hit fs (erasing x.sector x.entry n)
unfolding erasing
erasing-hit fs x n m h =
    let q : n ≡ 1 + (n - 1) = omega arith in
    let split = ap (unmarking (x.sector * 4096) x.entry) q ∙ unmarking-append (x.sector * 4096) x.entry 1 (n - 1) in
    (x, m, rw split (in_right (head_step x) (unmarking (x.sector * 4096) (x.entry + 1) (n - 1)) _ (rw (unmarking_one (x.sector * 4096) x.entry) (inl refl))))

module _ (fs : List Found) (sp : Spanned fs) where
  all_hit : (xs : List Found) → ((x : Found) → x ∈ xs → x ∈ fs) → (erase_all xs ≡ []) ⊎ Hit fs (erase_all xs)
  unfolding erase_all flat_map
  all_hit [] h = inl refl
  all_hit (x ∷ xs) h =
      inr (hit_left fs (erasing x.sector x.entry (span_of x.raw)) _ (erasing-hit fs x (span_of x.raw) (h x (inl refl)) (sp x (h x (inl refl)))))

  drop-hit : (v : ℕ) (i : Found) → i ∈ fs → Hit fs (drop_version v i fs)
  unfolding drop_version
  drop-hit v i m = hit_left fs (erasing i.sector i.entry 1) _ (erasing-hit fs i 1 m (omega arith))

  counting_in : (v : ℕ) (i : Found) → counting v fs ≡ some i → i ∈ fs
  unfolding counting
  counting_in v i e = (keep_in (λ (x : Found). index_of v x.raw) fs i (best_in newer (indices v fs) i e)).0

  judge-hit : (v : ℕ) → (judge fs v ≡ []) ⊎ Hit fs (judge fs v)
  unfolding judge
  judge-hit v = go (counting v fs) refl
    where
      two : (i : Found) → i ∈ fs → (b : Bool) → (cond b [] (drop_version v i fs) ≡ []) ⊎ Hit fs (cond b [] (drop_version v i fs))
      two i m true = inl refl
      two i m false = inr (drop-hit v i m)

      go : (o : Option Found) → counting v fs ≡ o → (judge_with v fs o ≡ []) ⊎ Hit fs (judge_with v fs o)
      go none q = unfold judge_with in all_hit (chunks v fs) (λ x m. (keep_in (λ (y : Found). chunk_of v y.raw) fs x m).0)
      go (some i) q = unfold judge_with in two i (counting_in v i q) (sound v fs i)

  counted-hit : (v : ℕ) → (drop_counting v fs (counting v fs) ≡ []) ⊎ Hit fs (drop_counting v fs (counting v fs))
  counted-hit v = go (counting v fs) refl
    where
      go : (o : Option Found) → counting v fs ≡ o → (drop_counting v fs o ≡ []) ⊎ Hit fs (drop_counting v fs o)
      go none q = unfold drop_counting in inl refl
      go (some i) q = unfold drop_counting in inr (drop-hit v i (counting_in v i q))

  older-hit : (g : ℕ) → (older fs g ≡ []) ⊎ Hit fs (older fs g)
  unfolding older
  older-hit g = one_of (both_sound fs (version_in g 0) (version_in g 0x80))
    where
      three : (b : Bool) (v w : ℕ)
          → (cond b (drop_counting w fs (counting w fs)) (drop_counting v fs (counting v fs)) ≡ []) ⊎ Hit fs
          (cond b (drop_counting w fs (counting w fs)) (drop_counting v fs (counting v fs)))
      three true v w = counted-hit w
      three false v w = counted-hit v

      two : (o : Option Found) (v w : ℕ) → (older_with v w fs o ≡ []) ⊎ Hit fs (older_with v w fs o)
      two none v w = unfold older_with in inl refl
      two (some i) v w = unfold older_with in three (eqb (version_of i.raw) v) v w

      one_of : (b : Bool) → (cond b (older_with (version_in g 0) (version_in g 0x80) fs (newest_of g fs)) [] ≡ [])
          ⊎ Hit fs (cond b (older_with (version_in g 0) (version_in g 0x80) fs (newest_of g fs)) [])
      one_of true = two (newest_of g fs) (version_in g 0) (version_in g 0x80)
      one_of false = inl refl

  append-hit : (a b : List Step) → (a ≡ []) ⊎ Hit fs a → (b ≡ []) ⊎ Hit fs b → (a ++ b ≡ []) ⊎ Hit fs (a ++ b)
  append-hit a b (inr h) k = inr (hit_left fs a b h)
  append-hit a b (inl e) (inr h) = inr (hit_right fs a b h)
  append-hit a b (inl e) (inl f) = inl (rw (e, f))

  flat_map-hit : (g : ℕ → List Step) → ((c : ℕ) → (g c ≡ []) ⊎ Hit fs (g c)) → (cs : List ℕ) → (flat_map g cs ≡ []) ⊎ Hit fs (flat_map g cs)
  unfolding flat_map
  flat_map-hit g h [] = inl refl
  flat_map-hit g h (c ∷ cs) = append-hit (g c) (flat_map g cs) (h c) (flat_map-hit g h cs)

  -- stage 3 makes no step, or such a one
  pub blobs-hit : (blob_steps fs ≡ []) ⊎ Hit fs (blob_steps fs)
  unfolding blob_steps
  blobs-hit = append-hit _ _ (flat_map-hit (judge fs) judge-hit _) (flat_map-hit (older fs) older-hit _)

  -- and so does stage 4
  pub dup_hit : (duplicate_steps fs ≡ []) ⊎ Hit fs (duplicate_steps fs)
  unfolding duplicate_steps
  dup_hit = all_hit _ (λ x m. erased_in fs x m)
