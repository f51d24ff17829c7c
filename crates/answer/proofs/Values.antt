-- An answer is told by its number, its steps and its stage; what a refusal says, and what steps made under an allowance say. Assumes nothing.
use mathlib.Core.Path.{◌≡◌, refl, sym, ap, ◌∙◌}
use mathlib.Core.Bool.{Bool, true, false, cond}
use mathlib.Core.Logic.{◌⊎◌, inl, inr}
use mathlib.Core.Option.{Option, none, some}
use mathlib.Core.List.{List, [], ◌∷◌}
use Prim.Native.Nat.{ℕ, ◌≤◌, ◌<◌}
use native.Mathlib.Omega.{arith}
use lib.Dec.{eqb, ltb}
use lib.ListN.{length, take}
use lib.Seq.{take-nil}
use borrow.Author.Tests.{lt-ltb, le-ltb}
use Rattle.flash.specs.Step.{Step, run}
use Rattle.flash.proofs.Order.{le-or-gt}
use Rattle.answer.specs.declared.Stage.{Stage}
use Rattle.answer.specs.declared.Answer.{Answer}
use Rattle.answer.specs.declared.Answer.TheVariants.{Done, NotSectors, FewRecords, ActiveStands, AllWritten, NoFreeSector, SequencesSpent, Stopped}
use Rattle.answer.specs.Answer.{number_of, steps_of, stage_of, refusal}
use Rattle.answer.specs.Staged.{Staged, untag, left, stopped_at, answer_of}
use Rattle.answer.specs.Went.{told_of, Went}
use Rattle.answer.specs.Told.{Line, number_in, steps_made, first_stage, Told}
use Rattle.answer.proofs.Tagged.{left_none, steps_told}
use Rattle.answer.proofs.Made.{untag-take, went_short, told_is}

-- ---- by number, steps and stage

answer_by : ℕ → ℕ → Option Stage → Answer
answer_by k n (some s) = Stopped s n
answer_by k n none =
    cond (eqb k 0) (Done n) (cond (eqb k 1) NotSectors (cond (eqb k 2) FewRecords (cond (eqb k 3) ActiveStands (cond (eqb k 4) AllWritten (cond (eqb k 5) NoFreeSector SequencesSpent)))))

by_values : (a : Answer) → a ≡ answer_by (number_of a) (steps_of a) (stage_of a)
unfolding answer_by
by_values (Done n) = refl
by_values NotSectors = refl
by_values FewRecords = refl
by_values ActiveStands = refl
by_values AllWritten = refl
by_values NoFreeSector = refl
by_values SequencesSpent = refl
by_values (Stopped s n) = refl

-- what is told of an answer determines it
pub told_same : {xs : List Line} {n : ℕ} {ts : List Staged} {r r' : Answer} → Told xs n ts r → Told xs n ts r' → r ≡ r'
told_same {r = r} {r'} t u =
    let k : number_of r ≡ number_of r' = t.number ∙ sym u.number in
    let n : steps_of r ≡ steps_of r' = t.steps ∙ sym u.steps in
    let s : stage_of r ≡ stage_of r' = t.stage ∙ sym u.stage in
    by_values r ∙ rw (k, n, s) (sym (by_values r'))

-- the steps told are those made of the plain list
pub steps-listed : {xs : List Line} {n : ℕ} {ts : List Staged} {r : Answer} → Told xs n ts r → steps_of r ≡ length (take n (untag ts))
unfolding steps_made
steps-listed {n = n} {ts} t = t.steps ∙ untag-take n ts

-- ---- a refusal

-- no step, no change
pub idle : (n : ℕ) (l : List ℕ) (ss : List Step) → ss ≡ [] → l ≡ run (take n ss) l
unfolding run
idle n l ss e = rw (e, take-nil {A = Step} n)

none_made : (n : ℕ) → 0 ≡ steps_made n []
unfolding steps_made
none_made n = rw (take-nil {A = Staged} n)

-- "nothing changed, 0 steps", and no stage
refusal-values : (a : Answer) → refusal a ≡ true → (steps_of a ≡ 0) × (stage_of a ≡ none)
refusal-values (Done n) e = absurd (let z : ◌≡◌ {A = ℕ} 0 1 = cc in omega arith)
refusal-values NotSectors e = (refl, refl)
refusal-values FewRecords e = (refl, refl)
refusal-values ActiveStands e = (refl, refl)
refusal-values AllWritten e = (refl, refl)
refusal-values NoFreeSector e = (refl, refl)
refusal-values SequencesSpent e = (refl, refl)
refusal-values (Stopped s n) e = absurd (let z : ◌≡◌ {A = ℕ} 0 1 = cc in omega arith)

pub no_steps : (a : Answer) → refusal a ≡ true → steps_of a ≡ 0
no_steps a e = (refusal-values a e).0

-- a refusal has not the number 0
pub refusal-number : (a : Answer) → refusal a ≡ true → number_of a ≡ 0 → ⊥
refusal-number a e z = let y : ◌≡◌ {A = Bool} false true = rw z at e in let x : ◌≡◌ {A = ℕ} 0 1 = cc in omega arith

pub refusal_told : {xs : List Line} (n : ℕ) {ts : List Staged} (a : Answer) → refusal a ≡ true → number_of a ≡ number_in xs → ts ≡ [] → Told xs n ts a
refusal_told n a f e z =
    record {
      number = e;
      steps = rw z ((refusal-values a f).0 ∙ none_made n);
      stage = rw (z, left_none n [] (omega arith)) (refusal-values a f).1;
    }

-- ---- steps made

-- 0 and 7 are no refusals
pub no-refusal : (a : Answer) (b : Bool) → number_of a ≡ cond b 7 0 → refusal a ≡ false
no-refusal a true e = rw e
no-refusal a false e = rw e

module _ (n : ℕ) (ts : List Staged) where
  -- "allowance used up before the end" is 7, else the list ended: 0
  number_told : number_of (answer_of n ts) ≡ cond (ltb n (length ts)) 7 0
  unfolding answer_of
  number_told = go (le-or-gt (length ts) n)
    where
      go : (length ts ≤ n) ⊎ (n < length ts) → number_of (stopped_at (length (take n ts)) (left n ts)) ≡ cond (ltb n (length ts)) 7 0
      go (inl h) = rw (left_none n ts h, le-ltb n (length ts) h)
      go (inr h) = rw (lt-ltb n (length ts) h) (sym (ap number_of (told_is n ts)) ∙ ap (λ (v : Went). number_of (told_of v n)) (went_short n ts h).1)

  stage_told : stage_of (answer_of n ts) ≡ first_stage (left n ts)
  unfolding answer_of
  stage_told = go (left n ts)
    where
      go : (us : List Staged) → stage_of (stopped_at (length (take n ts)) us) ≡ first_stage us
      go [] = refl
      go (u ∷ us) = refl

  pub answer_told : {xs : List Line} → number_in xs ≡ cond (ltb n (length ts)) 7 0 → Told xs n ts (answer_of n ts)
  unfolding steps_made
  answer_told e = record { number = number_told ∙ sym e; steps = steps_told n ts; stage = stage_told }
