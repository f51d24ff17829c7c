-- Rule. Document 01, Result numbers: what an answer says of its call: the number, by a table of conditions in document 01's order, the steps made, and the stage
-- of a stopped call. Assumes nothing.
use Rattle.std.specs.Prelude.{◌≡◌, Bool, false, cond, List, [], ◌∷◌, ℕ, eqb, length, take}
use Rattle.std.proofs.Math.Option.{Option, none, some}
use Rattle.answer.specs.declared.Stage.{Stage}
use Rattle.answer.specs.declared.Answer.{Answer}
use Rattle.answer.specs.Answer.{number_of, steps_of, stage_of}
use Rattle.answer.specs.Staged.{Staged, left}

-- a line of the table: a number, and whether its condition holds
pub record Line : Type 0 where
  pub number : ℕ
  pub holds : Bool

infix 90 ◌when◌
abbrev pub ◌when◌ : ℕ → Bool → Line
k when b = record { number = k; holds = b }

-- "Given exactly when": the first whose condition holds; 0 "the list of steps ended" where none does
unfoldable pub number_in : List Line → ℕ
number_in [] = 0
number_in (x ∷ xs) = cond x.holds x.number (number_in xs)

-- the lines before that of k, all where there is none; and the condition of k
unfoldable pub before : ℕ → List Line → List Line
before k [] = []
before k (x ∷ xs) = cond (eqb x.number k) [] (x ∷ before k xs)

unfoldable pub condition_of : ℕ → List Line → Bool
condition_of k [] = false
condition_of k (x ∷ xs) = cond (eqb x.number k) x.holds (condition_of k xs)

-- no condition of these lines holds
abbrev pub NoneHolds : List Line → Type 0
NoneHolds [] = Unit {0}
NoneHolds (x ∷ xs) = (x.holds ≡ false) × NoneHolds xs

-- "reports how many it made": the length of the listed steps made
unfoldable pub steps_made : ℕ → List Staged → ℕ
steps_made n ts = length (take n ts)

-- "It is the stage of the first step not made": ts are the steps not made
abbrev pub first_stage : List Staged → Option Stage
first_stage [] = none
first_stage (t ∷ ts) = some t.stage

-- the answer r of a call that has the table xs and the list of steps ts, of which n are allowed
pub record Told (xs : List Line) (n : ℕ) (ts : List Staged) (r : Answer) : Type 0 where
  pub number : number_of r ≡ number_in xs
  pub steps : steps_of r ≡ steps_made n ts
  -- "A stopped call says in which stage, and for the finish stage which source sector."
  pub stage : stage_of r ≡ first_stage (left n ts)
