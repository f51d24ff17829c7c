-- Steps with stages: their number, what an allowance leaves of them, and what the answer says of those made. Assumes nothing.
use mathlib.Core.Path.{◌≡◌, refl}
use mathlib.Core.Bool.{false}
use mathlib.Core.List.{List, [], ◌∷◌}
use Prim.Native.Nat.{ℕ, zero, suc, ◌≤◌}
use native.Mathlib.Omega.{arith}
use lib.ListN.{length, take, length-map}
use Rattle.flash.specs.Step.{Step}
use Rattle.answer.specs.declared.Stage.{Stage}
use Rattle.answer.specs.Answer.{refusal, steps_of}
use Rattle.answer.specs.Staged.{Staged, tag, stopped_at, left, answer_of}

pub length-tag : (x : Stage) (ss : List Step) → length (tag x ss) ≡ length ss
unfolding tag
length-tag x ss = length-map ss (λ (s : Step). record { stage = x; step = s })

pub left_none : (n : ℕ) (ts : List Staged) → length ts ≤ n → left n ts ≡ []
unfolding left
left_none zero [] h = refl
left_none zero (t ∷ ts) h = absurd (omega arith)
left_none (suc n) [] h = refl
left_none (suc n) (t ∷ ts) h = left_none n ts (omega arith)

-- steps that are made are no refusal
pub made_no-refusal : (n : ℕ) (ts : List Staged) → refusal (answer_of n ts) ≡ false
unfolding answer_of
made_no-refusal n ts = go (left n ts)
  where
    go : (us : List Staged) → refusal (stopped_at (length (take n ts)) us) ≡ false
    go [] = refl
    go (u ∷ us) = refl

pub steps_told : (n : ℕ) (ts : List Staged) → steps_of (answer_of n ts) ≡ length (take n ts)
unfolding answer_of
steps_told n ts = go (left n ts)
  where
    go : (us : List Staged) → steps_of (stopped_at (length (take n ts)) us) ≡ length (take n ts)
    go [] = refl
    go (u ∷ us) = refl
