-- Sums over the items from a place on; what a chunk adds to its version's, and any other item. Assumes nothing.
use mathlib.Core.Path.{◌≡◌, ap}
use mathlib.Core.Bool.{true, false}
use mathlib.Core.List.{List}
use Prim.Native.Nat.{ℕ, ◌≤◌}
use native.Mathlib.Omega.{arith}
use lib.ListN.{take, drop, take-append-drop}
use Rattle.entry.specs.Fields.{chunk_size}
use Rattle.lists.specs.Lists.{sum_of}
use Rattle.lists.proofs.Maps.{sum-map}
use Rattle.lists.proofs.Sums.{sum-append}
use Rattle.found.specs.Found.{Found, chunk_of}
use Rattle.found.specs.Places.{item_at, items_at}
use Rattle.versions.specs.Versions.{size_in}

module _ (f : Found → ℕ) (l ps : List ℕ) where
  -- what is summed from a place on is no more than all
  pub total-part : (i : ℕ) → sum_of f (items_at l (drop i ps)) ≤ sum_of f (items_at l ps)
  total-part i =
      let a = sum-map f (item_at l) (drop i ps) in
      let b = sum-map f (item_at l) ps in
      let c = sum-append (λ (p : ℕ). f (item_at l p)) (take i ps) (drop i ps) in
      let d = ap (sum_of (λ (p : ℕ). f (item_at l p))) (take-append-drop i ps) in
      omega arith

module _ (v : ℕ) (r : List ℕ) where
  pub size-chunk : chunk_of v r ≡ true → size_in v r ≡ chunk_size r
  unfolding size_in
  size-chunk e = rw e

  pub size-other : chunk_of v r ≡ false → size_in v r ≡ 0
  unfolding size_in
  size-other e = rw e
