-- How many steps stage 4 takes: "no item is erased twice in a stage", so no more than erase all items; then a mark a page. Assumes nothing.
use mathlib.Core.Path.{refl, ap}
use mathlib.Core.Logic.{inl, inr}
use mathlib.Core.Bool.{Bool, true, false, cond, not, ◌&&◌}
use mathlib.Core.Option.{Option, none, some}
use mathlib.Core.List.{List, [], ◌∷◌, flat_map, get_last?, drop_last}
use Prim.Native.Nat.{ℕ, ◌≤◌}
use native.Mathlib.Omega.{arith}
use lib.Dec.{eqb}
use lib.ListN.{length, length-map}
use Rattle.entry.specs.States.{empty, count_state}
use Rattle.flash.specs.Step.{sector}
use Rattle.item.specs.Mark.{mark_full}
use Rattle.lists.specs.Lists.{keep, sum_of, sort_by}
use Rattle.lists.proofs.Member.{◌∈◌}
use Rattle.lists.proofs.Search.{keep_in}
use Rattle.lists.proofs.Sums.{sum-keep}
use Rattle.lists.proofs.Maps.{flat_map_in}
use Rattle.lists.proofs.Out.{drop_last_in}
use Rattle.lists.proofs.Sorting.{sort_in}
use Rattle.lists.proofs.Lengths.{length-keep, sum_without}
use Rattle.table.specs.declared.Page.{Page}
use Rattle.table.specs.Table.{active_page}
use Rattle.found.specs.Found.{Found, is_index, start_in, version_of, group_of, chunk_of, chunks, erase_all}
use Rattle.found.proofs.Lengths.{steps_for, length-erased}
use Rattle.duplicates.specs.Duplicates.{ranked, members, older_than, with_chunks, outdated, same_place, once_each, groups, duplicate_steps, last_marks}
use Rattle.duplicates.proofs.Once.{same_self}

-- each place once, of items that are all in fs
once-within : (xs fs : List Found) → ((z : Found) → z ∈ xs → z ∈ fs) → (f : Found → ℕ) → sum_of f (once_each xs) ≤ sum_of f fs
unfolding once_each sum_of
once-within [] fs h f = omega arith
once-within (x ∷ xs) fs h f =
    let q : Found → Bool = λ (y : Found). not (same_place x y) in
    omega
    (arith, sum-keep q f (once_each xs), sum-keep q f fs, once-within xs fs (λ z m. h z (inr m)) (λ (y : Found). cond (q y) (f y) 0), sum_without q f fs x (h x (inl refl)) (ap not (same_self x)))

module _ (fs : List Found) where
  with_in : (o : Option Found) (x z : Found) → x ∈ fs → z ∈ with_chunks fs o x → z ∈ fs
  unfolding with_chunks
  with_in none x z h (inl e) = rw e h
  with_in none x z h (inr m) = absurd m
  with_in (some k) x z h (inl e) = rw e h
  with_in (some k) x z h (inr m) = taken (is_index x.raw && not (is_index k.raw && eqb (start_in k.raw) (start_in x.raw))) m
    where
      taken : (b : Bool) → z ∈ cond b (chunks (version_of x.raw) fs) [] → z ∈ fs
      taken true m = (keep_in (λ (y : Found). chunk_of (version_of x.raw) y.raw) fs z m).0
      taken false m = absurd m

  pub outdated_in : (g : ℕ) (z : Found) → z ∈ outdated fs g → z ∈ fs
  unfolding outdated
  outdated_in g z m =
      let s = sort_by older_than (members g fs) in
      let x = flat_map_in (with_chunks fs (get_last? s)) (drop_last s) z m in
      let old = sort_in older_than (members g fs) x.0 (drop_last_in s x.0 x.1) in
      with_in (get_last? s) x.0 z (keep_in (λ (y : Found). ranked y.raw && eqb (group_of y.raw) g) fs x.0 old).0 x.2

  pub duplicates_most : length (duplicate_steps fs) ≤ length (erase_all fs)
  unfolding duplicate_steps
  duplicates_most =
      let os = flat_map (outdated fs) (groups fs) in
      omega (arith, length-erased (once_each os), length-erased fs, once-within os fs (λ z m. let g = flat_map_in (outdated fs) (groups fs) z m in outdated_in g.0 z g.2) steps_for)

pub marks_most : (ps : List Page) (l : List ℕ) → length (last_marks ps l) ≤ length ps
unfolding last_marks
marks_most ps l =
    let p : Page → Bool = λ (p : Page). active_page p && eqb (count_state (sector p.sector l) empty) 0 in
    omega (arith, length-keep p ps, length-map (keep p ps) (λ (p : Page). mark_full p.sector))
