-- The other way: where stages 3 and 4 make no step, the items are calm, if no version has two indices in namespace 0. Assumes nothing.
use mathlib.Core.Path.{◌∙◌, ◌≡◌, refl, sym}
use mathlib.Core.Logic.{inl, ⊎_elim}
use mathlib.Core.Bool.{Bool, ◌||◌, cond, false, true}
use mathlib.Core.Option.{Option, none, some}
use mathlib.Core.List.{List, [], ◌∷◌, drop_last, flat_map, get_last?}
use Prim.Native.Nat.{◌+◌, ◌/◌, ◌<◌, ◌^◌, ◌≤◌, ℕ}
use native.Mathlib.Omega.{arith}
use lib.Dec.{eqb, ltb}
use lib.ListN.{length}
use borrow.Author.Tests.{eq-eqb, eqb-true, le-leb, ltb-false, ltb-true}
use Rattle.entry.specs.States.{one}
use Rattle.entry.specs.Fields.{index_count, index_size, key_number, key_of, namespace_of}
use Rattle.page.proofs.Tests.{both_first, both_is, both-second}
use Rattle.lists.specs.Lists.{keep, sort_by}
use Rattle.lists.proofs.Sums.{sum-kept_one, sum-le}
use Rattle.lists.proofs.Search.{best_in, best_some, in_keep, keep_in}
use Rattle.lists.proofs.Maps.{flat_map-each, in_map}
use Rattle.lists.proofs.Sorting.{drop_last_none, length-sort}
use Rattle.lists.proofs.Ascending.{in_ascending}
use Rattle.lists.proofs.Member.{◌∈◌, nil_left, nil_right, nil≢, none≢some}
use Rattle.found.specs.Found.{Found, chunk_of, chunks, group_of, index_of, is_chunk, is_index, is_part, newer, version_of}
use Rattle.found.proofs.Versions.{group_in, version-group}
use Rattle.found.proofs.Spanned.{Spanned, erase_some, erase_all_none}
use Rattle.versions.specs.Versions.{both_sound, chunk_numbered, counting, drop_counting, drop_version, exact, indices, judge, judge_with, older, older_with, size_in, sound, sound_one, version_in}
use Rattle.versions.proofs.Exact.{sound-exact}
use Rattle.blobs.specs.Blobs.{blob_steps}
use Rattle.blobs.proofs.Ordered.{group-space}
use Rattle.duplicates.specs.Duplicates.{duplicate_steps, groups, members, older_than, once_each, outdated, ranked, with_chunks}
use Rattle.duplicates.proofs.Grouping.{erased_in}
use Rattle.quick.specs.Calm.{Calm, ZeroLone, in_group, part_of, tot, zero_index}
use Rattle.quick.proofs.Counts.{in_pos, length-keep, length_one, one_le, pos_in}
use Rattle.quick.proofs.Versions.{index-not-chunk, index-part, pow_pos, split_in}

once_each_none : (xs : List Found) → once_each xs ≡ [] → xs ≡ []
unfolding once_each
once_each_none [] e = refl
once_each_none (x ∷ xs) e = absurd (nil≢ e)

with_some : (fs : List Found) (o : Option Found) (x : Found) → with_chunks fs o x ≡ [] → ⊥
unfolding with_chunks
with_some fs none x e = nil≢ e
with_some fs (some k) x e = nil≢ e

flat_map-with : (fs : List Found) (o : Option Found) (xs : List Found) → flat_map (with_chunks fs o) xs ≡ [] → xs ≡ []
unfolding flat_map
flat_map-with fs o [] e = refl
flat_map-with fs o (x ∷ xs) e = absurd (with_some fs o x (nil_left _ _ e))

-- a version is not dropped by no step
drop_some : (v : ℕ) (i : Found) (fs : List Found) → drop_version v i fs ≡ [] → ⊥
unfolding drop_version
drop_some v i fs e = erase_some i.sector i.entry 1 (omega arith) (nil_left _ _ e)

module _ (fs : List Found) (keys : (x : Found) → x ∈ fs → key_number (key_of x.raw) < 2 ^ 128) (spans : Spanned fs) (zero-lone : ZeroLone (λ (f : List ℕ → ℕ). tot f fs))
    (idle3 : blob_steps fs ≡ []) (idle4 : duplicate_steps fs ≡ []) where
  -- ---- stage 4: one of a group
  one_of : (g : ℕ) (x : Found) → x ∈ members g fs → length (members g fs) ≤ 1
  unfolding duplicate_steps outdated groups
  one_of g x m =
      let k = keep_in (λ (y : Found). in_group g y.raw) fs x m in
      let a = both_first (ranked x.raw) _ k.1 in
      let b = eqb-true (group_of x.raw) g (both-second (ranked x.raw) _ k.1) in
      let n = in_keep (λ (y : Found). ranked y.raw) fs x k.0 a in
      let i : g ∈ groups fs = in_ascending _ g (rw b at (in_map (λ (y : Found). group_of y.raw) (keep (λ (y : Found). ranked y.raw) fs) x n)) in
      let z : outdated fs g ≡ [] = flat_map-each (outdated fs) (groups fs) (once_each_none _ (erase_all_none _ (λ y k. spans y (erased_in fs y k)) idle4)) g i in
      let f = flat_map-with fs (get_last? (sort_by older_than (members g fs))) (drop_last (sort_by older_than (members g fs))) z in
      let c = drop_last_none (sort_by older_than (members g fs)) f in
      let d = length-sort older_than (members g fs) in
      omega arith

  single : (g : ℕ) → tot (λ (r : List ℕ). one (in_group g r)) fs ≤ 1
  single g = let a = length-keep (λ (x : Found). in_group g x.raw) fs in let b = go (members g fs) (one_of g) in omega arith
    where
      go : (xs : List Found) → ((x : Found) → x ∈ xs → length xs ≤ 1) → length xs ≤ 1
      go [] h = omega arith
      go (x ∷ xs) h = h x (inl refl)

  -- ---- stage 3: a version has a sound index
  judged : (v : ℕ) (x : Found) → x ∈ fs → part_of v x.raw ≡ true → judge fs v ≡ []
  unfolding blob_steps
  judged v x m e =
      let a = both_first (is_part x.raw) _ e in
      let b = eqb-true (version_of x.raw) v (both-second (is_part x.raw) _ e) in
      let n = in_keep (λ (y : Found). is_part y.raw) fs x m a in
      flat_map-each (judge fs) _ (nil_left _ _ idle3) v
      (in_ascending _ v (rw b at (in_map (λ (y : Found). version_of y.raw) (keep (λ (y : Found). is_part y.raw) fs) x n)))

  -- the index that counts is sound
  sound-index : (v : ℕ) (x : Found) → x ∈ fs → part_of v x.raw ≡ true → (i : Found) × (counting v fs ≡ some i) × (sound v fs i ≡ true)
  unfolding judge judge_with counting
  sound-index v x m e = go (counting v fs) refl (judged v x m e)
    where
      no-parts : counting v fs ≡ none → chunks v fs ≡ [] → ⊥
      no-parts q k = kind (is_chunk x.raw) refl (both_first (is_part x.raw) _ e)
        where
          w : eqb (version_of x.raw) v ≡ true
          w = both-second (is_part x.raw) _ e

          kind : (b : Bool) → is_chunk x.raw ≡ b → (b || (is_index x.raw)) ≡ true → ⊥
          kind true r f = rw k at (in_keep (λ (y : Found). chunk_of v y.raw) fs x m (both_is _ _ r w))
          kind false r f = none≢some q (best_some newer (indices v fs) x (in_keep (λ (y : Found). index_of v y.raw) fs x m (both_is _ _ f w))).1

      good : (i : Found) (b : Bool) → sound v fs i ≡ b → cond b [] (drop_version v i fs) ≡ [] → sound v fs i ≡ true
      good i true r f = r
      good i false r f = absurd (drop_some v i fs f)

      go : (o : Option Found) → counting v fs ≡ o → judge_with v fs o ≡ [] → (i : Found) × (counting v fs ≡ some i) × (sound v fs i ≡ true)
      go none q f = absurd (no-parts q (erase_all_none (chunks v fs) (λ y k. spans y (keep_in (λ (z : Found). chunk_of v z.raw) fs y k).0) f))
      go (some i) q f = (i, q, good i (sound v fs i) refl f)

  -- it is one of the indices
  counts : (v : ℕ) (i : Found) → counting v fs ≡ some i → i ∈ indices v fs
  unfolding counting
  counts v i q = best_in newer (indices v fs) i q

  has : (v : ℕ) → 1 ≤ tot (λ (r : List ℕ). one (part_of v r)) fs → 1 ≤ tot (λ (r : List ℕ). one (index_of v r)) fs
  has v h =
      let r = pos_in (λ (x : Found). part_of v x.raw) fs h in
      let i = sound-index v r.0 r.1 r.2 in
      let k = keep_in (λ (x : Found). index_of v x.raw) fs i.0 (counts v i.0 i.1) in
      in_pos (λ (x : Found). index_of v x.raw) fs i.0 k.0 k.1

  index-sound : (v : ℕ) (x : Found) → x ∈ fs → index_of v x.raw ≡ true → (i : Found) × (counting v fs ≡ some i) × (sound v fs i ≡ true)
  index-sound v x m e = sound-index v x m (both_is _ _ (index-part x.raw (both_first (is_index x.raw) _ e)) (both-second (is_index x.raw) _ e))

  -- ---- a version has one index: above namespace 0 by its group, which is judged by stage 4
  index-group : (v : ℕ) (x : Found) → x ∈ fs → index_of v x.raw ≡ true → group_of x.raw ≡ group_in v
  index-group v x m e = version-group v x.raw (keys x m) (eqb-true (version_of x.raw) v (both-second (is_index x.raw) _ e))

  index-space : (v : ℕ) (x : Found) → x ∈ fs → index_of v x.raw ≡ true → namespace_of x.raw ≡ group_in v / 2 ^ 128
  index-space v x m e = sym (group-space x.raw (keys x m)) ∙ rw (index-group v x m e)

  lone : (v : ℕ) → tot (λ (r : List ℕ). one (index_of v r)) fs ≤ 1
  lone v = go (ltb 0 (group_in v / 2 ^ 128)) refl
    where
      nothing : (n : ℕ) → ltb 0 n ≡ false → n ≡ 0
      nothing n q = let k = ltb-false 0 n q in omega arith

      most : (f : List ℕ → Bool) → tot (λ (r : List ℕ). one (f r)) fs ≤ 1 → ((x : Found) → x ∈ fs → index_of v x.raw ≡ true → f x.raw ≡ true) → tot (λ (r : List ℕ). one (index_of v r)) fs ≤ 1
      most f h each = let a = sum-le (λ (x : Found). one (index_of v x.raw)) (λ (x : Found). one (f x.raw)) fs (λ x m. one_le _ _ (each x m)) in omega arith

      go : (b : Bool) → ltb 0 (group_in v / 2 ^ 128) ≡ b → tot (λ (r : List ℕ). one (index_of v r)) fs ≤ 1
      go true q =
          most (in_group (group_in v)) (single (group_in v))
          (λ x m e. rw (index-not-chunk x.raw (both_first (is_index x.raw) _ e), le-leb 1 (namespace_of x.raw) (rw (index-space v x m e) (ltb-true 0 _ q)), eq-eqb (group_of x.raw) (group_in v) (index-group v x m e)))
      go false q =
          most (zero_index v) (zero-lone v)
          (λ x m e. both_is _ _ e (eq-eqb (namespace_of x.raw) 0 (index-space v x m e ∙ nothing (group_in v / 2 ^ 128) q)))

  -- ---- and a key has one version: of two that are sound the older would go
  older_none : (g : ℕ) (x : Found) → x ∈ fs → is_index x.raw ≡ true → group_of x.raw ≡ g → older fs g ≡ []
  unfolding blob_steps
  older_none g x m e q =
      let n = in_keep (λ (y : Found). is_index y.raw) fs x m e in
      flat_map-each (older fs) _ (nil_right (flat_map (judge fs) _) _ idle3) g (in_ascending _ g (rw q at (in_map (λ (y : Found). group_of y.raw) (keep (λ (y : Found). is_index y.raw) fs) x n)))

  two-sound : (g : ℕ) (x y : Found) → x ∈ fs → y ∈ fs → index_of (version_in g 0) x.raw ≡ true → index_of (version_in g 0x80) y.raw ≡ true → ⊥
  unfolding older both_sound sound_one older_with drop_counting
  two-sound g x y m n p q =
      let v = version_in g 0 in
      let w = version_in g 0x80 in
      let i = index-sound v x m p in
      let j = index-sound w y n q in
      let k = best_some newer (keep (λ (z : Found). index_of v z.raw || index_of w z.raw) fs) x (in_keep (λ (z : Found). index_of v z.raw || index_of w z.raw) fs x m (rw p)) in
      let none = older_none g x m (both_first (is_index x.raw) _ p) (index-group v x m p ∙ split_in (2 ^ 128) g 0 pow_pos (omega arith)) in
      go k.0 i.0 j.0 (eqb (version_of k.0.raw) v) (rw (k.1, i.1, j.1, i.2, j.2) at none)
    where
      go : (k i j : Found) (b : Bool) → cond b (drop_counting (version_in g 0x80) fs (some j)) (drop_counting (version_in g 0) fs (some i)) ≡ [] → ⊥
      go k i j true e = drop_some (version_in g 0x80) j fs e
      go k i j false e = drop_some (version_in g 0) i fs e

  not-both : (g : ℕ) → tot (λ (r : List ℕ). one (index_of (version_in g 0) r)) fs + tot (λ (r : List ℕ). one (index_of (version_in g 0x80) r)) fs ≤ 1
  not-both g = go (ltb 0 (tot (λ (r : List ℕ). one (index_of (version_in g 0) r)) fs)) refl (ltb 0 (tot (λ (r : List ℕ). one (index_of (version_in g 0x80) r)) fs)) refl
    where
      go : (a : Bool) → ltb 0 (tot (λ (r : List ℕ). one (index_of (version_in g 0) r)) fs) ≡ a → (b : Bool) → ltb 0 (tot (λ (r : List ℕ). one (index_of (version_in g 0x80) r)) fs) ≡ b
          → tot (λ (r : List ℕ). one (index_of (version_in g 0) r)) fs + tot (λ (r : List ℕ). one (index_of (version_in g 0x80) r)) fs ≤ 1
      go true p true q =
          let x = pos_in (λ (z : Found). index_of (version_in g 0) z.raw) fs (ltb-true 0 _ p) in
          let y = pos_in (λ (z : Found). index_of (version_in g 0x80) z.raw) fs (ltb-true 0 _ q) in
          absurd (two-sound g x.0 y.0 x.1 y.1 x.2 y.2)
      go false p b q = omega (arith, lone (version_in g 0x80), ltb-false 0 (tot (λ (r : List ℕ). one (index_of (version_in g 0) r)) fs) p)
      go true p false q = omega (arith, lone (version_in g 0), ltb-false 0 (tot (λ (r : List ℕ). one (index_of (version_in g 0x80) r)) fs) q)

  -- ---- the one index, and it is sound
  the_index : (v : ℕ) → 1 ≤ tot (λ (r : List ℕ). one (index_of v r)) fs → (i : Found) × (indices v fs ≡ i ∷ []) × (sound v fs i ≡ true)
  the_index v h =
      let r = pos_in (λ (x : Found). index_of v x.raw) fs h in
      let s = index-sound v r.0 r.1 r.2 in
      let n = lone v in
      let b = length-keep (λ (x : Found). index_of v x.raw) fs in
      let o = length_one (indices v fs) (omega arith) in
      let e : s.0 ≡ o.0 = ⊎_elim (λ k. k) (λ k. absurd k) (rw o.1 at (counts v s.0 s.1)) in
      (o.0, o.1, rw (← e) s.2)

  each : (v : ℕ) → 1 ≤ tot (λ (r : List ℕ). one (index_of v r)) fs → (n : ℕ)
      → tot (λ (r : List ℕ). one (chunk_numbered v n r)) fs ≡ tot (λ (r : List ℕ). cond (index_of v r) (one (ltb n (index_count r))) 0) fs
  each v h n =
      let i = the_index v h in
      sound-exact v fs i.0 i.2 n
      ∙ sym (sum-kept_one (λ (x : Found). index_of v x.raw) (λ (x : Found). one (ltb n (index_count x.raw))) fs i.0 i.1)

  size : (v : ℕ) → 1 ≤ tot (λ (r : List ℕ). one (index_of v r)) fs → tot (λ (r : List ℕ). cond (index_of v r) (index_size r) 0) fs ≡ tot (size_in v) fs
  unfolding sound
  size v h =
      let i = the_index v h in
      sum-kept_one (λ (x : Found). index_of v x.raw) (λ (x : Found). index_size x.raw) fs i.0 i.1
      ∙ eqb-true _ _ (both-second (exact v fs (index_count i.0.raw)) _ i.2)

  -- so the items are calm
  pub idle-calm : Calm (λ (f : List ℕ → ℕ). tot f fs)
  idle-calm = record { single = single; lone = lone; not-both = not-both; has = has; each = each; size = size }
