-- Stages 3 and 4 in sequence: what the steps of the one leave to the other. Assumes nothing.
use Rattle.std.specs.Prelude.{Err, Ok}
use mathlib.Core.Path.{◌≡◌, refl}
use mathlib.Core.List.{List, [], ◌∷◌, flat_map}
use Prim.Native.Nat.{ℕ}
use native.Mathlib.Omega.{arith}
use lib.ListN.{length}
use Rattle.std.specs.Result.{IsErrAnd}
use Rattle.flash.specs.Step.{run}
use Rattle.flash.specs.Did.{Did, Ran}
use Rattle.answer.specs.declared.Stage.TheVariants.{Blobs, Duplicates}
use Rattle.answer.specs.Staged.{Staged, tag}
use Rattle.answer.specs.declared.Stage.{Stage}
use Rattle.answer.specs.Went.{Made, Went, in_stage}
use Rattle.answer.proofs.Made.{made_none, making_start, making_on, making_out}
use Rattle.table.specs.declared.Page.{Page}
use Rattle.lists.specs.Lists.{keep, ascend_from, ascending}
use Rattle.found.specs.Found.{found, erase_all}
use Rattle.blobs.specs.Blobs.{blob_steps}
use Rattle.duplicates.specs.Duplicates.{groups, once_each, duplicate_steps, last_marks, duplicate_stage}
use Rattle.quick.specs.Calm.{Calm, tot}
use Rattle.quick.proofs.Idle.{blob_idle, duplicate_idle}
use Rattle.repair.specs.Repair.{last_stages}

module _ (ps : List Page) {n : ℕ} {l m : List ℕ} {r : Ran} (d : Did (blob_steps (found ps l)) n l m r) where
  abbrev repairs : List ℕ → List Staged
  repairs k = tag Duplicates (duplicate_stage ps k)

  pub blobs-stop : {w v : Went} {s : Stage} → w ≡ in_stage Blobs r → w ≡ Err s → IsErrAnd v (λ y. y ≡ s) → Made (last_stages ps l) n l m v
  unfolding last_stages
  blobs-stop i q h = making_out (making_start _ n l) Blobs _ refl d i q h

  pub blobs_on : {w : Went} {k : ℕ} {m' : List ℕ} {v : Went} → w ≡ in_stage Blobs r → w ≡ Ok k → Made (tag Duplicates (duplicate_stage ps m)) k m m' v → Made (last_stages ps l) n l m' v
  unfolding last_stages
  blobs_on i q next = (making_on (making_start _ n l) Blobs repairs refl d i q).on _ _ next

-- where neither has anything to repair, the last marks are left
pub calm-stages : (ps : List Page) (l : List ℕ) → Calm (λ (f : List ℕ → ℕ). tot f (found ps l)) → last_stages ps l ≡ tag Duplicates (last_marks ps l)
unfolding last_stages duplicate_stage run tag
calm-stages ps l calm = rw (blob_idle (found ps l) calm, duplicate_idle (found ps l) calm)

-- without a page there is nothing at all
none_left : (l : List ℕ) → last_stages [] l ≡ []
unfolding last_stages found blob_steps duplicate_stage duplicate_steps groups once_each erase_all last_marks ascending ascend_from keep tag flat_map
none_left l = refl

pub no-page-stages : (ps : List Page) (n : ℕ) (l : List ℕ) → length ps ≡ 0 → Made (last_stages ps l) n l l (Ok n)
no-page-stages [] n l e = rw (none_left l) (made_none n l)
no-page-stages (p ∷ ps) n l e = absurd (omega arith)

-- so too in stage 4 alone; and where stage 3 has no step, stage 4 is all
pub calm_last : (ps : List Page) (l : List ℕ) → Calm (λ (f : List ℕ → ℕ). tot f (found ps l)) → duplicate_stage ps l ≡ last_marks ps l
unfolding duplicate_stage run
calm_last ps l calm = rw (duplicate_idle (found ps l) calm)

pub no-blobs : (ps : List Page) (l : List ℕ) → blob_steps (found ps l) ≡ [] → last_stages ps l ≡ tag Duplicates (duplicate_stage ps l)
unfolding last_stages run tag
no-blobs ps l e = rw e
