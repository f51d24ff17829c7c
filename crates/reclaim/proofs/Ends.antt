-- Reclaim ends: no list of its steps is longer than `most_steps`, so a call that is allowed as many is never stopped. Assumes nothing.
use Rattle.std.specs.Prelude.{Result, Ok, Err}
use mathlib.Core.Path.{◌≡◌}
use mathlib.Core.Bool.{Bool, true, false, cond}
use mathlib.Core.List.{List, [], ◌∷◌}
use Prim.Native.Nat.{ℕ, ◌≤◌}
use native.Mathlib.Omega.{arith}
use lib.ListN.{length}
use Rattle.flash.specs.Step.{run, sector}
use Rattle.item.specs.Mark.{mark_freeing}
use Rattle.relocate.proofs.Lengths.{moving_most}
use Rattle.table.specs.Table.{whole_sectors, pages, frees, items_in}
use Rattle.answer.specs.declared.Answer.{Answer}
use Rattle.answer.specs.Answer.{number_of, refusal}
use Rattle.answer.proofs.Ended.{neither-ended}
use Rattle.plan.specs.declared.Plan.{Plan}
use Rattle.plan.specs.declared.Plan.TheVariants.{Clear, Move}
use Rattle.plan.specs.Plan.{plan}
use Rattle.reclaim.specs.Reclaim.{plan_steps, reclaiming}
use Rattle.reclaim.specs.Promise.{most_steps, ReclaimPromise}
use Rattle.reclaim.proofs.Numbers.{number_7}

plan_most : (l : List ℕ) (p : Result Plan Answer) → length (plan_steps l p) ≤ most_steps
unfolding plan_steps items_in
plan_most l (Err a) = omega arith
plan_most l (Ok (Clear s)) = omega arith
plan_most l (Ok (Move s t q)) = let m = run (mark_freeing s ∷ []) l in omega (arith, moving_most s t q (sector s m) m)

pub reclaim_ends : (l : List ℕ) → length (reclaiming l) ≤ most_steps
unfolding reclaiming
reclaim_ends l = go (whole_sectors l)
  where
    go : (b : Bool) → length (cond b (plan_steps l (plan (pages l) (frees l))) []) ≤ most_steps
    go true = plan_most l (plan (pages l) (frees l))
    go false = omega arith

-- so a call that is allowed as many is refused or ends
module _ {l : List ℕ} {n : ℕ} {m : List ℕ} {r : Answer} (p : ReclaimPromise l n m r) (allowed : most_steps ≤ n) where
  pub reclaim-unstopped : number_of r ≡ 7 → ⊥
  reclaim-unstopped e = omega (arith, allowed, reclaim_ends l, ((number_7 p).0 e).1)

  pub reclaim-ended : refusal r ≡ false → number_of r ≡ 0
  reclaim-ended f = neither-ended r f reclaim-unstopped
