-- What goes of a group is told by the items of the group alone. Assumes nothing.
use mathlib.Core.Path.{◌≡◌, refl, sym, ap, ap₂, ◌∙◌}
use mathlib.Core.Logic.{inl, inr}
use mathlib.Core.Bool.{Bool, true, false, cond, ◌&&◌}
use mathlib.Core.Option.{Option, none, some}
use mathlib.Core.List.{List, [], ◌∷◌, ◌++◌, map, flat_map, get_last?, drop_last}
use Prim.Native.Nat.{ℕ, ◌^◌, ◌<◌, ◌≤◌}
use native.Mathlib.Omega.{arith}
use lib.Dec.{eqb}
use lib.ListN.{length}
use borrow.Author.Tests.{eqb-true, eq-eqb}
use Rattle.entry.specs.Fields.{key_of, key_number}
use Rattle.page.proofs.Tests.{both_first, both-second}
use Rattle.lists.specs.Lists.{keep, sort_by, ascending}
use Rattle.lists.proofs.Member.{◌∈◌, refuted}
use Rattle.lists.proofs.Search.{keep_in, in_keep, keep_none, keep-both}
use Rattle.lists.proofs.Sorting.{sort_in, length-sort, drop_last_short}
use Rattle.lists.proofs.Maps.{in_map, map_in, flat_map_ext}
use Rattle.lists.proofs.Out.{drop_last_in}
use Rattle.found.specs.Found.{Found, is_chunk, version_of, group_of, chunk_of, chunks, erase_all}
use Rattle.sort.specs.Rank.{group_by}
use Rattle.lists.specs.Merge.{below}
use Rattle.lists.specs.Runs.{runs}
use Rattle.lists.proofs.Climbing.{ascending_more}
use Rattle.lists.proofs.Running.{only, runs-sorted}
use Rattle.lists.proofs.Keeping.{keep-within, flat_map-map}
use Rattle.duplicates.specs.Duplicates.{ranked, members, older_than, groups}
use Rattle.duplicates.specs.Turns.{old_one, old_once, old_with, old_of, takes_chunks, group_steps}
use Rattle.duplicates.specs.Runs.{run_steps}
use Rattle.found.proofs.Versions.{version_tells}

-- ---- the items that chunks are taken from
module _ (fs gs : List Found) where
  abbrev Chunks : List Found → Type 0
  Chunks s = (x : Found) → x ∈ s → chunks (version_of x.raw) fs ≡ chunks (version_of x.raw) gs

  once_from : (k : Found) (before xs : List Found) → Chunks xs → old_once fs k before xs ≡ old_once gs k before xs
  unfolding old_once old_one
  once_from k before [] h = refl
  once_from k before (x ∷ xs) h =
      ap₂ (λ (a r : List Found). (x ∷ cond (takes_chunks before k x) a []) ++ r) (h x (inl refl)) (once_from k (before ++ (x ∷ [])) xs (λ y m. h y (inr m)))

  with_last : (s : List Found) → Chunks s → (o : Option Found) → old_with fs s o ≡ old_with gs s o
  unfolding old_with
  with_last s h none = refl
  with_last s h (some k) = once_from k [] (drop_last s) (λ x m. h x (drop_last_in s x m))

  pub old_from : (s : List Found) → Chunks s → old_of fs s ≡ old_of gs s
  unfolding old_of
  old_from s h = with_last s h (get_last? s)

-- ---- none goes of one at most
with_short : (fs s : List Found) → length s ≤ 1 → (o : Option Found) → old_with fs s o ≡ []
unfolding old_with old_once
with_short fs s h none = refl
with_short fs s h (some k) = ap (old_once fs k []) (drop_last_short s h)

pub old_short : (fs s : List Found) → length s ≤ 1 → old_of fs s ≡ []
unfolding old_of
old_short fs s h = with_short fs s h (get_last? s)

erase_none : erase_all [] ≡ []
unfolding erase_all flat_map
erase_none = refl

-- ---- a run
pub run_short : (xs : List Found) → length (keep (λ (x : Found). ranked x.raw) xs) ≤ 1 → run_steps xs ≡ []
unfolding run_steps
run_short xs h = ap erase_all (old_short xs (sort_by older_than (keep (λ (x : Found). ranked x.raw) xs)) (rw (length-sort older_than (keep (λ (x : Found). ranked x.raw) xs)) h)) ∙ erase_none

group_none : (fs : List Found) (g : ℕ) → members g fs ≡ [] → group_steps fs g ≡ []
unfolding group_steps sort_by
group_none fs g e = rw e (ap erase_all (old_short fs [] (omega arith)) ∙ erase_none)

module _ (fs : List Found) (keys : (x : Found) → x ∈ fs → key_number (key_of x.raw) < 2 ^ 128) where
  -- the members of a group, by way of its run
  members_run : (g : ℕ) → keep (λ (x : Found). ranked x.raw) (only group_by fs g) ≡ members g fs
  members_run g =
      keep-both (λ (x : Found). ranked x.raw) (λ (x : Found). eqb (group_by x) g) (λ (x : Found). ranked x.raw && eqb (group_of x.raw) g) (λ y. swap (eqb (group_of y.raw) g) (ranked y.raw)) fs
    where
      swap : (a b : Bool) → cond a b false ≡ (b && a)
      swap true true = refl
      swap true false = refl
      swap false true = refl
      swap false false = refl

  -- a version's chunks are of its group
  chunks-run : (g : ℕ) (x : Found) → x ∈ fs → group_of x.raw ≡ g → chunks (version_of x.raw) (only group_by fs g) ≡ chunks (version_of x.raw) fs
  chunks-run g x m e =
      keep-within (λ (y : Found). chunk_of (version_of x.raw) y.raw) (λ (y : Found). eqb (group_by y) g) fs (λ y n q.
      let same = eqb-true (version_of y.raw) (version_of x.raw) (both-second (is_chunk y.raw) (eqb (version_of y.raw) (version_of x.raw)) q) in
      eq-eqb (group_of y.raw) g ((version_tells y.raw x.raw (keys y n) (keys x m) same).0 ∙ e))

  run-group : (g : ℕ) → run_steps (only group_by fs g) ≡ group_steps fs g
  unfolding run_steps group_steps
  run-group g =
      let s = sort_by older_than (members g fs) in
      rw (members_run g) (ap erase_all (old_from (only group_by fs g) fs s (λ x m.
      let k = keep_in (λ (y : Found). ranked y.raw && eqb (group_of y.raw) g) fs x (sort_in older_than (members g fs) x m) in
      chunks-run g x k.0 (eqb-true (group_of x.raw) g (both-second (ranked x.raw) (eqb (group_of x.raw) g) k.1)))))

  -- the groups' steps, run by run of the sorted items
  pub steps_by_runs : flat_map run_steps (runs group_by (sort_by (below group_by) fs)) ≡ flat_map (group_steps fs) (groups fs)
  unfolding groups
  steps_by_runs =
      ap (flat_map run_steps) (runs-sorted group_by fs)
      ∙ flat_map-map run_steps (only group_by fs) (ascending (map group_by fs))
      ∙ flat_map_ext (λ (g : ℕ). run_steps (only group_by fs g)) (group_steps fs) (ascending (map group_by fs)) (λ g m. run-group g)
      ∙ sym (ascending_more (group_steps fs) (map group_by (keep (λ (x : Found). ranked x.raw) fs)) (map group_by fs)
      (λ c m. let z = map_in group_by (keep (λ (x : Found). ranked x.raw) fs) c m in rw z.2 (in_map group_by fs z.0 (keep_in (λ (x : Found). ranked x.raw) fs z.0 z.1).0))
      (λ c m out. group_none fs c (keep_none (λ (x : Found). ranked x.raw && eqb (group_of x.raw) c) fs (λ y n. refuted _ (λ q.
      out (rw (← eqb-true (group_of y.raw) c (both-second (ranked y.raw) (eqb (group_of y.raw) c) q)) (in_map group_by (keep (λ (x : Found). ranked x.raw) fs) y (in_keep (λ (x : Found). ranked x.raw) fs y n (both_first (ranked y.raw) (eqb (group_of y.raw) c) q)))))))))
