-- Bridge: what a call has done of steps that have stages, while more may follow. Assumes nothing.
use Rattle.std.specs.Prelude.{◌≡◌, List, [], ◌∷◌, ℕ, ◌-◌, length, take, Result, Ok, Err}
use Rattle.flash.specs.Did.{Ran}
use Rattle.flash.specs.Step.{run}
use Rattle.answer.specs.declared.Stage.{Stage}
use Rattle.answer.specs.declared.Answer.{Answer}
use Rattle.answer.specs.declared.Answer.TheVariants.{Done, Stopped}
use Rattle.answer.specs.Staged.{Staged, untag, left}

-- how many are still allowed, or the stage of the first step not made
abbrev pub Went : Type 0
Went = Result ℕ Stage

abbrev pub went_to : ℕ → List Staged → Went
went_to k [] = Ok k
went_to k (t ∷ ts) = Err t.stage

unfoldable pub went : ℕ → List Staged → Went
went n ts = went_to (n - length ts) (left n ts)

-- of the steps ts the first n were made on the image l, which left m, and r says how far they went
pub record Made (ts : List Staged) (n : ℕ) (l m : List ℕ) (r : Went) : Type 0 where
  pub image : m ≡ run (take n (untag ts)) l
  pub answer : r ≡ went n ts

-- whoever makes the steps ts on the image l with n allowed has then made T on L with N allowed: what holds between the stages that make up T, and each
-- time round a loop
pub record Making (T : List Staged) (N : ℕ) (L : List ℕ) (ts : List Staged) (n : ℕ) (l : List ℕ) : Type 0 where
  pub on : (m : List ℕ) (r : Went) → Made ts n l m r → Made T N L m r

-- steps that are all of the stage x: whether they were all made says how far they went
abbrev pub in_stage : Stage → Ran → Went
in_stage x (Ok k) = Ok k
in_stage x (Err _) = Err x

-- the answer of a call, to which n steps were allowed
abbrev pub told_of : Went → ℕ → Answer
told_of (Ok k) n = Done (n - k)
told_of (Err x) n = Stopped x n
