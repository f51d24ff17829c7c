-- Rule. Document 01, Result numbers: "A stopped call says in which stage .. It is the stage of the first step not made". Steps with their stages, and the
-- answer that an allowance gives. Assumes nothing.
use Rattle.std.specs.Prelude.{List, [], ◌∷◌, map, ℕ, zero, suc, length, take}
use Rattle.flash.specs.Step.{Step}
use Rattle.answer.specs.declared.Stage.{Stage}
use Rattle.answer.specs.declared.Answer.{Answer}
use Rattle.answer.specs.declared.Answer.TheVariants.{Done, Stopped}

pub record Staged : Type 0 where
  pub stage : Stage
  pub step : Step

unfoldable pub tag : Stage → List Step → List Staged
tag x ss = map (λ (s : Step). record { stage = x; step = s }) ss

unfoldable pub untag : List Staged → List Step
untag ts = map (λ (t : Staged). t.step) ts

-- n steps allowed, of which the first are made: "If the list fits the allowance exactly, the call has ended."
abbrev pub stopped_at : ℕ → List Staged → Answer
stopped_at made [] = Done made
stopped_at made (t ∷ ts) = Stopped t.stage made

unfoldable pub left : ℕ → List Staged → List Staged
left zero ts = ts
left (suc n) [] = []
left (suc n) (t ∷ ts) = left n ts

unfoldable pub answer_of : ℕ → List Staged → Answer
answer_of n ts = stopped_at (length (take n ts)) (left n ts)
