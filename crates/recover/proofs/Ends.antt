-- Recovery ends: no list of its steps is longer than `most_steps`, so a call that is allowed as many is never stopped. Assumes nothing.
use mathlib.Core.Path.{◌≡◌, refl, ◌∙◌}
use mathlib.Core.Bool.{Bool, true, false, cond, not, ◌&&◌}
use mathlib.Core.List.{List, [], ◌++◌}
use Prim.Native.Nat.{ℕ, zero, suc, ◌+◌, ◌*◌, ◌≤◌}
use native.Mathlib.Omega.{arith}
use lib.Dec.{leb}
use lib.ListN.{length, length-append, length-take}
use Rattle.page.specs.declared.«record».PageRecord.{PageRecord}
use Rattle.flash.specs.Step.{run}
use Rattle.flash.proofs.Frame.{length_run}
use Rattle.table.specs.declared.Page.{Page}
use Rattle.table.specs.Table.{sectors_of, whole_sectors, pages, frees}
use Rattle.table.proofs.Scanned.{pages_placed}
use Rattle.table.proofs.Whole.{whole_is}
use Rattle.answer.specs.declared.Stage.TheVariants.{Order, Blobs, Duplicates}
use Rattle.answer.specs.declared.Answer.{Answer}
use Rattle.answer.specs.Answer.{number_of, steps_of, refusal}
use Rattle.answer.specs.Staged.{tag, untag}
use Rattle.answer.specs.Told.{steps_made, Told}
use Rattle.answer.proofs.Tagged.{length-tag}
use Rattle.answer.proofs.Made.{length-untag}
use Rattle.answer.proofs.Ended.{neither-ended}
use Rattle.order.specs.Order.{ordering, ordered}
use Rattle.order.proofs.Kept.{ordered_placed}
use Rattle.order.proofs.Lengths.{ordering_most}
use Rattle.finish.proofs.Lengths.{most_in_round}
use Rattle.finishing.specs.Finishing.{freeings, finishing}
use Rattle.finishing.proofs.Lengths.{freeings_most, finishing_most}
use Rattle.found.specs.Found.{found}
use Rattle.found.proofs.Lengths.{most_found, found_most, erased_most}
use Rattle.blobs.specs.Blobs.{blob_steps}
use Rattle.blobs.proofs.Lengths.{blobs_most}
use Rattle.duplicates.specs.Duplicates.{duplicate_steps, last_marks, duplicate_stage}
use Rattle.duplicates.proofs.Lengths.{duplicates_most, marks_most}
use Rattle.stages.specs.Stages.{last_stages, from_order, from_finish, after_order, recovering, too_high, accepted, recovery}
use Rattle.recover.specs.Promise.{called, recover_table, most_steps, RecoverPromise}
use Rattle.recover.proofs.Numbers.{number_7}

-- 3 and 4: two passes over the versions, the items once more, and a mark a page
abbrev most_last : ℕ
most_last = 2 * (most_found + most_found) + most_found + 16

last_most : (ps : List Page) (l : List ℕ) → length ps ≤ 16 → length (last_stages ps l) ≤ most_last
unfolding last_stages duplicate_stage
last_most ps l h =
    let b = blob_steps (found ps l) in
    let m = run b l in
    let d = duplicate_steps (found ps m) in
    let k = last_marks ps (run d m) in
    omega
    (arith, h, blobs_most (found ps l), found_most ps l h, erased_most ps l h, duplicates_most (found ps m), erased_most ps m h, marks_most ps (run d m), length-append d k, length-tag Blobs b, length-tag Duplicates (d ++ k), length-append (tag Blobs b) (tag Duplicates (d ++ k)))

module _ (l : List ℕ) (few : sectors_of l ≤ 16) where
  ordered-few : length (ordered (pages l)) ≤ 16
  ordered-few = omega (arith, (ordered_placed (pages_placed l few)).sixteen)

  -- 1
  order_most : length (tag Order (ordering (pages l))) ≤ 16
  order_most = omega (arith, length-tag Order (ordering (pages l)), ordering_most (pages_placed l few))

  -- "scan again and do 1 again", then 3 and 4
  from_order_most : length (from_order (pages l) l) ≤ 16 + most_last
  unfolding from_order
  from_order_most =
      let m = run (ordering (pages l)) l in
      omega (arith, order_most, last_most (ordered (pages l)) m ordered-few, length-append (tag Order (ordering (pages l))) (last_stages (ordered (pages l)) m))

module _ (l : List ℕ) (few : sectors_of l ≤ 16) where
  -- 2, a round for each of 16 pages at most, and the rest
  after_most : (c : ℕ) → length (after_order c (ordered (pages l)) (frees l) (run (ordering (pages l)) l)) ≤ 16 * most_in_round + (16 + most_last)
  unfolding after_order from_finish
  after_most zero = omega (arith, last_most (ordered (pages l)) (run (ordering (pages l)) l) (ordered-few l few))
  after_most (suc c) =
      let ps = ordered (pages l) in
      let m = run (ordering (pages l)) l in
      let f = finishing (freeings ps) ps (frees l) m in
      let e = run (untag f) m in
      let same : length e ≡ length l = length_run (untag f) m ∙ length_run (ordering (pages l)) l in
      omega
      (arith, freeings_most ps, ordered-few l few, finishing_most (freeings ps) ps (frees l) m, from_order_most e (rw same few), length-append f (from_order (pages e) e))

  recovering_most : length (recovering l) ≤ most_steps
  unfolding recovering
  recovering_most =
      let ps = ordered (pages l) in
      let m = run (ordering (pages l)) l in
      omega (arith, order_most l few, after_most (freeings ps), length-append (tag Order (ordering (pages l))) (after_order (freeings ps) ps (frees l) m))

pub recovery_ends : (l : List ℕ) → length (untag (recovery l)) ≤ most_steps
unfolding recovery accepted
recovery_ends l = rw (length-untag (recovery l)) (go (whole_sectors l) refl (not (too_high (pages l))))
  where
    go : (b : Bool) → whole_sectors l ≡ b → (c : Bool) → length (cond (b && c) (recovering l) []) ≤ most_steps
    go true w true = recovering_most l (whole_is l w).1
    go true w false = omega arith
    go false w c = omega arith

-- a call to which few records are lent makes none
called_most : (l : List ℕ) (lent : ℕ) → length (called l lent) ≤ most_steps
unfolding called
called_most l lent = go (leb (sectors_of l) lent)
  where
    go : (b : Bool) → length (cond b (recovery l) []) ≤ most_steps
    go true = omega (arith, length-untag (recovery l), recovery_ends l)
    go false = omega arith

-- so no call tells of more, and one that is allowed as many is refused or ends
module _ (l : List ℕ) (lent n : ℕ) {r : Answer} (t : Told (recover_table l lent n) n (called l lent) r) where
  pub steps_most : steps_of r ≤ most_steps
  unfolding steps_made
  steps_most = omega (arith, t.steps, length-take n (called l lent), called_most l lent)

  pub unstopped : most_steps ≤ n → number_of r ≡ 7 → ⊥
  unstopped allowed e = omega (arith, allowed, ((number_7 l lent n t).0 e).1, called_most l lent)

module _ {l m : List ℕ} {ys zs : List PageRecord} {n : ℕ} {r : Answer} (p : RecoverPromise l ys n m zs r) (allowed : most_steps ≤ n) where
  pub recover-unstopped : number_of r ≡ 7 → ⊥
  recover-unstopped = unstopped l (length ys) n p.answer allowed

  pub recover-ended : refusal r ≡ false → number_of r ≡ 0
  recover-ended f = neither-ended r f recover-unstopped
