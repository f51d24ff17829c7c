-- From the plan and the steps made to the promise; two outcomes that it allows are the same; the steps told are those made; a refusal changes nothing.
-- Assumes nothing.
use Rattle.std.specs.Prelude.{Result, Ok, Err}
use mathlib.Core.Path.{◌≡◌, refl, sym, ap, ◌∙◌, subst}
use mathlib.Core.Bool.{Bool, true, false, cond}
use mathlib.Core.List.{List, []}
use Prim.Native.Nat.{ℕ}
use lib.Dec.{ltb}
use lib.ListN.{length, take}
use Rattle.flash.specs.Step.{Step, run}
use Rattle.flash.specs.Did.{Did, Ran}
use Rattle.answer.specs.declared.Stage.TheVariants.{Reclaim}
use Rattle.answer.specs.declared.Answer.{Answer}
use Rattle.answer.specs.declared.Answer.TheVariants.{NotSectors}
use Rattle.answer.specs.Answer.{refusal, steps_of}
use Rattle.answer.specs.Went.{in_stage, told_of, Went}
use Rattle.answer.specs.Staged.{tag, answer_of}
use Rattle.answer.specs.Told.{number_in}
use Rattle.answer.proofs.Tagged.{length-tag}
use Rattle.answer.proofs.Made.{untag-only, made_tag, told_is}
use Rattle.answer.proofs.Values.{told_same, steps-listed, idle, no_steps, refusal_told, no-refusal, answer_told}
use Rattle.lists.proofs.Member.{true≢false}
use Rattle.table.specs.Table.{whole_sectors, pages, frees}
use Rattle.plan.specs.declared.Plan.{Plan}
use Rattle.plan.specs.declared.Plan.TheVariants.{Clear, Move}
use Rattle.plan.specs.Plan.{plan}
use Rattle.reclaim.specs.Reclaim.{plan_steps, reclaiming}
use Rattle.reclaim.specs.Promise.{reclaim_table, ReclaimPromise}
use Rattle.reclaim.proofs.Answered.{Numbered, numbered}

no_tagged : {ss : List Step} → ss ≡ [] → tag Reclaim ss ≡ []
unfolding tag
no_tagged e = rw e

module _ (l : List ℕ) (n : ℕ) where
  not_whole : whole_sectors l ≡ false → reclaiming l ≡ []
  unfolding reclaiming
  not_whole w = rw w

  pub refused_whole : whole_sectors l ≡ false → ReclaimPromise l n l NotSectors
  unfolding reclaim_table number_in
  refused_whole w = record { answer = refusal_told n NotSectors refl (rw w) (no_tagged (not_whole w)); image = idle n l (reclaiming l) (not_whole w) }

  steps_of_lem : (p : Result Plan Answer) → whole_sectors l ≡ true → plan (pages l) (frees l) ≡ p → reclaiming l ≡ plan_steps l p
  unfolding reclaiming
  steps_of_lem p w e = rw (w, e)

  no-plan-steps : (a : Answer) → whole_sectors l ≡ true → plan (pages l) (frees l) ≡ Err a → reclaiming l ≡ []
  unfolding plan_steps
  no-plan-steps a w e = steps_of_lem (Err a) w e

  pub promised-refusal : (a : Answer) → whole_sectors l ≡ true → plan (pages l) (frees l) ≡ Err a → ReclaimPromise l n l a
  promised-refusal a w e =
      let q = subst (Numbered l n) e (numbered l n w) in
      let z = no-plan-steps a w e in
      record { answer = refusal_told n a q.0 q.1 (no_tagged z); image = idle n l (reclaiming l) z }

  -- of a plan that is no refusal
  pub promised : (p : Result Plan Answer) (m : List ℕ) (x : Ran) (r : Answer) → whole_sectors l ≡ true → plan (pages l) (frees l) ≡ p
      → (Numbered l n p → number_in (reclaim_table l n) ≡ cond (ltb n (length (reclaiming l))) 7 0) → Did (plan_steps l p) n l m x → r ≡ told_of (in_stage Reclaim x) n → ReclaimPromise l n m r
  promised p m x r w e q d t =
      let s = steps_of_lem p w e in
      let a : r ≡ answer_of n (tag Reclaim (reclaiming l)) = t ∙ ap (λ (v : Went). told_of v n) (made_tag Reclaim d).answer ∙ told_is n (tag Reclaim (plan_steps l p)) ∙ ap (λ (ss : List Step). answer_of n (tag Reclaim ss)) (sym s) in
      let k : number_in (reclaim_table l n) ≡ cond (ltb n (length (tag Reclaim (reclaiming l)))) 7 0 = rw (length-tag Reclaim (reclaiming l)) (q (subst (Numbered l n) e (numbered l n w))) in
      record {
        answer = rw a (answer_told n (tag Reclaim (reclaiming l)) k);
        image = d.image ∙ ap (λ (ss : List Step). run (take n ss) l) (sym s);
      }

  -- two outcomes that the promise allows are the same
  pub reclaim_same : {m m' : List ℕ} {r r' : Answer} → ReclaimPromise l n m r → ReclaimPromise l n m' r' → (m ≡ m') × (r ≡ r')
  reclaim_same p q = (p.image ∙ sym q.image, told_same p.answer q.answer)

  -- the steps told are those of the image's list
  pub steps-are_made : {m : List ℕ} {r : Answer} → ReclaimPromise l n m r → steps_of r ≡ length (take n (reclaiming l))
  steps-are_made p = rw (untag-only Reclaim (reclaiming l)) at (steps-listed p.answer)

  -- "nothing changed, 0 steps": a refused call leaves every byte
  pub refused-unchanged : {m : List ℕ} {r : Answer} → ReclaimPromise l n m r → refusal r ≡ true → (m ≡ l) × (steps_of r ≡ 0)
  refused-unchanged {m} {r} p h = go (whole_sectors l) refl
    where
      unchanged : reclaiming l ≡ [] → (m ≡ l) × (steps_of r ≡ 0)
      unchanged e = (p.image ∙ sym (idle n l (reclaiming l) e), no_steps r h)

      made : number_in (reclaim_table l n) ≡ cond (ltb n (length (reclaiming l))) 7 0 → ⊥
      made k = true≢false h (no-refusal r (ltb n (length (reclaiming l))) (p.answer.number ∙ k))

      with-plan : whole_sectors l ≡ true → (q : Result Plan Answer) → plan (pages l) (frees l) ≡ q → Numbered l n q → reclaiming l ≡ []
      with-plan w (Err a) e k = no-plan-steps a w e
      with-plan w (Ok (Clear s)) e k = absurd (made k)
      with-plan w (Ok (Move s t q)) e k = absurd (made k)

      go : (b : Bool) → whole_sectors l ≡ b → (m ≡ l) × (steps_of r ≡ 0)
      go true w = unchanged (with-plan w (plan (pages l) (frees l)) refl (numbered l n w))
      go false w = unchanged (not_whole w)
