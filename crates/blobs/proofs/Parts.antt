-- Where there is no part of a blob there is no version and no group, and so no step. Assumes nothing.
use mathlib.Core.Path.{◌≡◌, ap₂}
use mathlib.Core.Bool.{false}
use mathlib.Core.List.{List, [], ◌++◌, map, flat_map}
use Prim.Native.Nat.{ℕ}
use Rattle.page.proofs.Tests.{neither-second}
use Rattle.flash.specs.Step.{Step}
use Rattle.lists.specs.Lists.{some_of, ascend_from, ascending}
use Rattle.lists.proofs.Member.{◌∈◌}
use Rattle.lists.proofs.Search.{keep_none, none_of}
use Rattle.found.specs.Found.{Found, is_chunk, is_index, is_part, version_of, group_of}
use Rattle.versions.specs.Versions.{judge, older}
use Rattle.blobs.specs.Blobs.{blob_steps}

module _ (fs : List Found) (none_here : some_of (λ (x : Found). is_part x.raw) fs ≡ false) where
  no_part : (x : Found) → x ∈ fs → is_part x.raw ≡ false
  no_part x m = none_of (λ (x : Found). is_part x.raw) fs none_here x m

  no_index : (x : Found) → x ∈ fs → is_index x.raw ≡ false
  no_index x m = neither-second (is_chunk x.raw) (is_index x.raw) (no_part x m)

  nothing : (f : ℕ → List Step) (number : Found → ℕ) (xs : List Found) → xs ≡ [] → flat_map f (ascending (map number xs)) ≡ []
  unfolding ascending ascend_from flat_map
  nothing f number xs e = rw e

  pub no_step : blob_steps fs ≡ []
  unfolding blob_steps
  no_step =
      ap₂ (λ (a b : List Step). a ++ b) (nothing (judge fs) (λ (x : Found). version_of x.raw) _ (keep_none (λ (x : Found). is_part x.raw) fs no_part))
      (nothing (older fs) (λ (x : Found). group_of x.raw) _ (keep_none (λ (x : Found). is_index x.raw) fs no_index))
