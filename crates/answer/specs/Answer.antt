-- Rule. Document 01, Result numbers: the number and the values of each answer. No answer has the number 8: document 02, No. 12, took it out, and it "is not
-- used again". Assumes nothing.
use Rattle.std.specs.Prelude.{Bool, not, ◌&&◌, ℕ, eqb}
use Rattle.std.proofs.Math.Option.{Option, none, some}
use Rattle.answer.specs.declared.Stage.{Stage}
use Rattle.answer.specs.declared.Answer.{Answer}
use Rattle.answer.specs.declared.Answer.TheVariants.{Done, NotSectors, FewRecords, ActiveStands, AllWritten, NoFreeSector, SequencesSpent, Stopped}

abbrev pub number_of : Answer → ℕ
number_of (Done n) = 0  -- "the list of steps ended"
number_of NotSectors = 1  -- "image not 2 to 16 whole sectors"
number_of FewRecords = 2  -- "recovery: fewer records than sectors"
number_of ActiveStands = 3  -- "reclaim: an Active page stands"
number_of AllWritten = 4  -- "reclaim: no page below 126 Written"
number_of NoFreeSector = 5  -- "reclaim: a copy is needed, no sector free"
number_of SequencesSpent = 6  -- "greatest sequence above 0xFFFFFFFD"; "k Freeing pages .. above 0xFFFFFFFE - k"
number_of (Stopped s n) = 7  -- "allowance used up before the end"

-- the steps made: "nothing changed, 0 steps" for a refusal
abbrev pub steps_of : Answer → ℕ
steps_of (Done n) = n
steps_of NotSectors = 0
steps_of FewRecords = 0
steps_of ActiveStands = 0
steps_of AllWritten = 0
steps_of NoFreeSector = 0
steps_of SequencesSpent = 0
steps_of (Stopped s n) = n

-- "A stopped call says in which stage, and for the finish stage which source sector."
abbrev pub stage_of : Answer → Option Stage
stage_of (Done n) = none
stage_of NotSectors = none
stage_of FewRecords = none
stage_of ActiveStands = none
stage_of AllWritten = none
stage_of NoFreeSector = none
stage_of SequencesSpent = none
stage_of (Stopped s n) = some s

-- "0 and 7 are no refusals."
abbrev pub refusal : Answer → Bool
refusal a = not (eqb (number_of a) 0) && not (eqb (number_of a) 7)
