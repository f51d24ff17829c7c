-- A run of places: the items of one group, and what goes of them. Assumes nothing.
use mathlib.Core.Path.{◌≡◌, ap, ◌∙◌}
use mathlib.Core.Bool.{not}
use mathlib.Core.List.{List, []}
use Prim.Native.Nat.{ℕ, ◌-◌, ◌^◌, ◌≤◌, ◌<◌}
use native.Mathlib.Omega.{arith}
use lib.Dec.{leb}
use lib.ListN.{length, take, drop, get_or, length-drop}
use lib.Seq.{take_all}
use borrow.Author.Tests.{lt-leb}
use Rattle.entry.specs.Fields.{namespace_of, key_of, key_number}
use Rattle.entry.proofs.Keys.{two-high}
use Rattle.page.proofs.Tests.{both-second}
use Rattle.lists.proofs.Lengths.{length-keep}
use Rattle.lists.specs.Lists.{sort_by}
use Rattle.lists.proofs.Member.{◌∈◌, refuted, true≢false}
use Rattle.lists.proofs.Maps.{map_in}
use Rattle.lists.proofs.Search.{keep_none}
use Rattle.found.specs.Found.{Found, is_chunk, group_of}
use Rattle.found.specs.Places.{item_at, items_at}
use Rattle.lists.specs.Each.{Each}
use Rattle.lists.proofs.Each.{of_each}
use Rattle.found.proofs.Keys.{item_key}
use Rattle.sort.specs.declared.choice.Order.TheVariants.{Age}
use Rattle.sort.specs.Rank.{group_by, rank_by, rank_at, age_of}
use Rattle.lists.specs.Merge.{below}
use Rattle.sort.proofs.Aging.{entry-few}
use Rattle.lists.proofs.Mapping.{map-sort}
use Rattle.duplicates.specs.Duplicates.{ranked}
use Rattle.duplicates.specs.Runs.{run_steps, aged_steps}
use Rattle.duplicates.proofs.Local.{run_short}
use Rattle.duplicates.proofs.Aged.{run-aged}

pub lent : (s : List ℕ) (a : ℕ) → take (length s - a) (drop a s) ≡ drop a s
lent s a = take_all (length s - a) (drop a s) (rw (length-drop a s) (omega arith))

pub run_one : (xs : List Found) → length xs ≤ 1 → run_steps xs ≡ []
run_one xs h = run_short xs (let k = length-keep (λ (x : Found). ranked x.raw) xs in omega arith)

pub run_free : (xs : List Found) → ((x : Found) → x ∈ xs → namespace_of x.raw ≡ 0) → run_steps xs ≡ []
run_free xs h =
    run_short xs (rw (keep_none (λ (x : Found). ranked x.raw) xs (λ y m. refuted (ranked y.raw) (λ q. true≢false (both-second (not (is_chunk y.raw)) (leb 1 (namespace_of y.raw)) q) (lt-leb 1 (namespace_of y.raw) (let z = h y m in omega arith))))) (omega arith))

-- ---- items of one group are of one namespace
module _ (l : List ℕ) (small : (i : ℕ) → get_or l i 0 < 256) (ps : List ℕ) (p : ℕ) (one : Each (λ (x : Found). group_by x ≡ group_by (item_at l p)) (items_at l ps)) where
  pub same_space : (x : Found) → x ∈ items_at l ps → namespace_of x.raw ≡ namespace_of (item_at l p).raw
  unfolding group_of
  same_space x m =
      let z = map_in (item_at l) ps x m in
      let kx : key_number (key_of x.raw) < 2 ^ 128 = rw z.2 (item_key l z.0 small) in
      two-high 128 {h = namespace_of x.raw} {h' = namespace_of (item_at l p).raw} kx (item_key l p small) (of_each (λ (x : Found). group_by x ≡ group_by (item_at l p)) (items_at l ps) one x m)

  -- sorted by age, what goes of them is what goes of the run
  pub run_of_aged : 1 ≤ namespace_of (item_at l p).raw → aged_steps (items_at l (sort_by (below (rank_at l Age)) ps)) ≡ run_steps (items_at l ps)
  unfolding rank_by
  run_of_aged h =
      ap aged_steps (map-sort (item_at l) age_of ps)
      ∙ run-aged (items_at l ps) (λ x m. let z = map_in (item_at l) ps x m in rw z.2 (entry-few l z.0)) (λ x m. let e = same_space x m in omega arith)
