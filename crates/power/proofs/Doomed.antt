-- What stage 3 erases where no two items but chunks share a name above namespace 0: whole items, version by version, the index first. Assumes nothing.
use mathlib.Core.Path.{◌∙◌, ◌≡◌, ap, ap₂, fun_ext, refl, sym}
use mathlib.Core.Logic.{inl, inr, ⊎_elim}
use mathlib.Core.Bool.{Bool, ◌&&◌, ◌||◌, cond, false, true}
use mathlib.Core.List.{List, [], ◌++◌, ◌∷◌, append-nil, flat_map, map}
use Prim.Native.Nat.{◌+◌, ◌≤◌, ℕ}
use native.Mathlib.Omega.{arith}
use lib.Dec.{eqb}
use lib.ListN.{length}
use borrow.Author.Tests.{eqb-true}
use Rattle.entry.specs.States.{one}
use Rattle.entry.specs.Fields.{index_count, index_size, span_of}
use Rattle.page.proofs.Tests.{both_first, both_is, both-second}
use Rattle.flash.specs.Step.{Step}
use Rattle.lists.specs.Lists.{all_to, ascending, best, better, keep, sum_of}
use Rattle.lists.proofs.Member.{◌∈◌, in_append, refuted, true≢false}
use Rattle.lists.proofs.Search.{in_keep, keep_in}
use Rattle.lists.proofs.Sums.{sum-append, sum_ext, sum-keep, sum-kept_one, sum_plus}
use Rattle.lists.proofs.Maps.{flat_map-append, flat_map_ext, flat_map_none}
use Rattle.lists.proofs.Passing.{all_to_ext}
use Rattle.found.specs.Found.{Found, chunk_of, chunks, erase_all, group_of, index_of, is_chunk, is_index, is_part, newer, version_of}
use Rattle.versions.specs.Versions.{chunk_numbered, counting, drop_version, exact, indices, judge, judge_with, older, size_in, sound}
use Rattle.blobs.specs.Blobs.{blob_steps}
use Rattle.quick.specs.Calm.{in_group, part_of, tot}
use Rattle.quick.proofs.Idle.{older-idle}
use Rattle.quick.proofs.Counts.{length-keep}
use Rattle.quick.proofs.Versions.{index-not-chunk, index-part}
use Rattle.power.proofs.Calm.{Tidy, lone, not-both}

-- a version by sums over the items: one index, its chunks are exactly those that it counts, and its size is theirs
unfoldable pub exact_by : ((List ℕ → ℕ) → ℕ) → ℕ → ℕ → Bool
exact_by t v c = eqb c (t (λ (r : List ℕ). one (chunk_of v r))) && all_to (λ (n : ℕ). eqb (t (λ (r : List ℕ). one (chunk_numbered v n r))) 1) c

unfoldable pub sound_by : ((List ℕ → ℕ) → ℕ) → ℕ → Bool
sound_by t v =
    eqb (t (λ (r : List ℕ). one (index_of v r))) 1
    && (exact_by t v (t (λ (r : List ℕ). cond (index_of v r) (index_count r) 0)) && eqb (t (λ (r : List ℕ). cond (index_of v r) (index_size r) 0)) (t (size_in v)))

-- its index and its chunks are parts of a version
part-index : (v : ℕ) (r : List ℕ) → index_of v r ≡ true → part_of v r ≡ true
part-index v r e = both_is (is_part r) _ (index-part r (both_first (is_index r) _ e)) (both-second (is_index r) _ e)

part-chunk : (v : ℕ) (r : List ℕ) → chunk_of v r ≡ true → part_of v r ≡ true
part-chunk v r e = rw (both_first (is_chunk r) _ e) (both-second (is_chunk r) _ e)

-- ---- it is a fact of the version's parts alone
module _ (t u : (List ℕ → ℕ) → ℕ) (v : ℕ)
    (same : (g : List ℕ → ℕ) → t (λ (r : List ℕ). cond (part_of v r) (g r) 0) ≡ u (λ (r : List ℕ). cond (part_of v r) (g r) 0)) where
  -- what is 0 of all that are no part
  at : (f : List ℕ → ℕ) → ((r : List ℕ) → part_of v r ≡ false → f r ≡ 0) → t f ≡ u f
  at f h = let e : f ≡ (λ (r : List ℕ). cond (part_of v r) (f r) 0) = fun_ext (λ r. go r (part_of v r) refl) in ap t e ∙ same f ∙ sym (ap u e)
    where
      go : (r : List ℕ) (b : Bool) → part_of v r ≡ b → f r ≡ cond b (f r) 0
      go r true q = refl
      go r false q = h r q

  no_chunk : (r : List ℕ) → part_of v r ≡ false → chunk_of v r ≡ false
  no_chunk r q = refuted (chunk_of v r) (λ e. true≢false (part-chunk v r e) q)

  no_index : (r : List ℕ) → part_of v r ≡ false → index_of v r ≡ false
  no_index r q = refuted (index_of v r) (λ e. true≢false (part-index v r e) q)

  exact_by_same : (c : ℕ) → exact_by t v c ≡ exact_by u v c
  unfolding exact_by
  exact_by_same c =
      ap₂ (λ (a b : Bool). a && b)
      (ap (eqb c) (at (λ (r : List ℕ). one (chunk_of v r)) (λ r q. rw (no_chunk r q))))
      (all_to_ext _ _ c (λ n h. ap (λ (k : ℕ). eqb k 1) (at (λ (r : List ℕ). one (chunk_numbered v n r)) (λ r q. rw (no_chunk r q)))))

  pub sound_by_same : sound_by t v ≡ sound_by u v
  unfolding sound_by size_in
  sound_by_same =
      rw (
        at (λ (r : List ℕ). one (index_of v r)) (λ r q. rw (no_index r q)),
        at (λ (r : List ℕ). cond (index_of v r) (index_count r) 0) (λ r q. rw (no_index r q)),
        at (λ (r : List ℕ). cond (index_of v r) (index_size r) 0) (λ r q. rw (no_index r q)),
        exact_by_same (u (λ (r : List ℕ). cond (index_of v r) (index_count r) 0)),
        at (size_in v) (λ r q. rw (no_chunk r q)),
      )

-- ---- the versions in the order in which stage 3 takes them, and what of each goes: nothing where it is sound, else its index and then its chunks
abbrev pub versions : List Found → List ℕ
versions fs = ascending (map (λ (x : Found). version_of x.raw) (keep (λ (x : Found). is_part x.raw) fs))

abbrev pub sound_in : List Found → ℕ → Bool
sound_in fs v = sound_by (λ (f : List ℕ → ℕ). tot f fs) v

abbrev pub goes : List Found → ℕ → List Found
goes fs v = cond (sound_in fs v) [] (indices v fs ++ chunks v fs)

abbrev pub doomed : List Found → List Found
doomed fs = flat_map (goes fs) (versions fs)

-- no part is both index and chunk
kinds : (v n : ℕ) (r : List ℕ) → cond (index_of v r) n 0 + cond (chunk_of v r) n 0 ≡ cond (part_of v r) n 0
kinds v n r = go (is_index r) (is_chunk r) (index-not-chunk r) (eqb (version_of r) v)
  where
    go : (i c : Bool) → (i ≡ true → c ≡ false) → (e : Bool) → cond (i && e) n 0 + cond (c && e) n 0 ≡ cond ((c || i) && e) n 0
    go true c h true = rw (h refl) (omega arith)
    go true c h false = rw (h refl) (omega arith)
    go false true h true = omega arith
    go false true h false = omega arith
    go false false h e = omega arith

module _ (fs : List Found) where
  pub goes_in : (v : ℕ) (x : Found) → x ∈ goes fs v → (x ∈ fs) × (part_of v x.raw ≡ true)
  goes_in v x m = go (sound_in fs v) m
    where
      index : x ∈ indices v fs → (x ∈ fs) × (part_of v x.raw ≡ true)
      index n = let k = keep_in (λ (y : Found). index_of v y.raw) fs x n in (k.0, part-index v x.raw k.1)

      chunk : x ∈ chunks v fs → (x ∈ fs) × (part_of v x.raw ≡ true)
      chunk n = let k = keep_in (λ (y : Found). chunk_of v y.raw) fs x n in (k.0, part-chunk v x.raw k.1)

      go : (b : Bool) → x ∈ cond b [] (indices v fs ++ chunks v fs) → (x ∈ fs) × (part_of v x.raw ≡ true)
      go true n = absurd n
      go false n = ⊎_elim index chunk (in_append x (indices v fs) (chunks v fs) n)

  -- of a version that is not sound all parts go, each as often as it stands
  pub goes-sum : (v : ℕ) → sound_in fs v ≡ false → (f : Found → ℕ)
      → sum_of f (goes fs v) ≡ sum_of (λ (x : Found). cond (part_of v x.raw) (f x) 0) fs
  goes-sum v e f =
      rw e (
      sum-append f (indices v fs) (chunks v fs)
      ∙ ap₂ (λ (a b : ℕ). a + b) (sum-keep (λ (x : Found). index_of v x.raw) f fs) (sum-keep (λ (x : Found). chunk_of v x.raw) f fs)
      ∙ sum_plus (λ (x : Found). cond (index_of v x.raw) (f x) 0) (λ (x : Found). cond (chunk_of v x.raw) (f x) 0) fs
      ∙ sum_ext _ _ fs (λ x m. kinds v (f x) x.raw)
      )

  -- ---- by the indices of a version: none, or one
  count_is : (v : ℕ) (xs : List Found) → indices v fs ≡ xs → tot (λ (r : List ℕ). one (index_of v r)) fs ≡ length xs
  count_is v xs e = sym (length-keep (λ (x : Found). index_of v x.raw) fs) ∙ ap length e

  sound_none : (v : ℕ) → indices v fs ≡ [] → sound_in fs v ≡ false
  unfolding sound_by
  sound_none v e = rw (count_is v [] e)

  sound_one_lem : (v : ℕ) (i : Found) → indices v fs ≡ i ∷ [] → sound_in fs v ≡ sound v fs i
  unfolding sound_by sound exact exact_by
  sound_one_lem v i e =
      let a = sum-kept_one (λ (x : Found). index_of v x.raw) (λ (x : Found). index_count x.raw) fs i e in
      let b = sum-kept_one (λ (x : Found). index_of v x.raw) (λ (x : Found). index_size x.raw) fs i e in
      rw (count_is v (i ∷ []) e, a, b)

erase_flat : (g : ℕ → List Found) (vs : List ℕ) → flat_map (λ (v : ℕ). erase_all (g v)) vs ≡ erase_all (flat_map g vs)
unfolding erase_all flat_map
erase_flat g [] = refl
erase_flat g (v ∷ vs) = ap (λ (r : List Step). erase_all (g v) ++ r) (erase_flat g vs) ∙ sym (flat_map-append _ (g v) (flat_map g vs))

-- ---- stage 3
module _ (fs : List Found) (tidy : Tidy fs) (single : (g : ℕ) → tot (λ (r : List ℕ). one (in_group g r)) fs ≤ 1) where
  -- what stage 3 asks of an index is a fact of its version
  pub sound_is : (v : ℕ) (i : Found) → i ∈ fs → index_of v i.raw ≡ true → sound v fs i ≡ sound_in fs v
  sound_is v i m e =
      let a = lone fs tidy single v in
      let b = count_is fs v (indices v fs) refl in
      sym (sound_one_lem fs v i (go (indices v fs) (in_keep (λ (x : Found). index_of v x.raw) fs i m e) (omega arith)))
    where
      go : (xs : List Found) → i ∈ xs → length xs ≤ 1 → xs ≡ i ∷ []
      go [] n h = absurd n
      go (j ∷ []) (inl q) h = rw q
      go (j ∷ []) (inr n) h = absurd n
      go (j ∷ (k ∷ xs)) n h = absurd (omega arith)

  module _ (short : (i : Found) → i ∈ fs → is_index i.raw ≡ true → sound (version_of i.raw) fs i ≡ false → span_of i.raw ≡ 1) where
    -- the index that is erased takes one entry, as it has
    dropped : (v : ℕ) (i : Found) → indices v fs ≡ i ∷ [] → sound v fs i ≡ false → drop_version v i fs ≡ erase_all (i ∷ chunks v fs)
    unfolding drop_version erase_all flat_map
    dropped v i e s =
        let k = keep_in (λ (x : Found). index_of v x.raw) fs i (rw e (inl refl)) in
        let w = eqb-true (version_of i.raw) v (both-second (is_index i.raw) _ k.1) in
        rw (short i k.0 (both_first (is_index i.raw) _ k.1) (rw w s))

    judged : (v : ℕ) → judge fs v ≡ erase_all (goes fs v)
    unfolding judge judge_with counting best better
    judged v = go (indices v fs) refl
      where
        one_of : (i : Found) → indices v fs ≡ i ∷ [] → (b : Bool) → sound v fs i ≡ b → cond b [] (drop_version v i fs) ≡ erase_all (cond b [] (i ∷ chunks v fs))
        one_of i e true s = unfold erase_all flat_map in refl
        one_of i e false s = dropped v i e s

        go : (xs : List Found) → indices v fs ≡ xs → judge_with v fs (best newer xs) ≡ erase_all (cond (sound_in fs v) [] (xs ++ chunks v fs))
        go [] e = rw (sound_none fs v e)
        go (i ∷ []) e = rw (sound_one_lem fs v i e) (one_of i e (sound v fs i) refl)
        go (i ∷ (j ∷ xs)) e = let a = lone fs tidy single v in let b = count_is fs v (i ∷ (j ∷ xs)) e in absurd (omega arith)

    -- the second pass makes no step: no key has two indices
    pub blobs-are : blob_steps fs ≡ erase_all (doomed fs)
    unfolding blob_steps
    blobs-are =
        ap₂ (λ (a b : List Step). a ++ b) (flat_map_ext (judge fs) (λ (v : ℕ). erase_all (goes fs v)) (versions fs) (λ v m. judged v))
        (flat_map_none (older fs) (ascending (map (λ (x : Found). group_of x.raw) (keep (λ (x : Found). is_index x.raw) fs))) (λ g m. older-idle fs g (not-both fs tidy single g)))
        ∙ append-nil _
        ∙ erase_flat (goes fs) (versions fs)
