-- Rule. Document 01, What the promises have to say: what recovery promises, of the image l and the lent records ys, with n steps allowed, the image m, the
-- records zs and the answer r. Assumes nothing.
use Rattle.std.specs.Prelude.{◌≡◌, cond, not, List, [], ◌∷◌, ◌++◌, ℕ, zero, suc, leb, ltb, length, take, drop}
use Rattle.flash.specs.Step.{Step, run}
use Rattle.answer.specs.declared.Answer.{Answer}
use Rattle.answer.specs.declared.Answer.TheVariants.{NotSectors, FewRecords, SequencesSpent}
use Rattle.answer.specs.Answer.{number_of}
use Rattle.answer.specs.Staged.{Staged, untag, answer_of}
use Rattle.answer.specs.Told.{Line, ◌when◌, Told}
use Rattle.page.specs.declared.«record».PageRecord.{PageRecord}
use Rattle.table.specs.Table.{sectors_of, whole_sectors, pages}
use Rattle.records.specs.declared.Rows.{Rows}
use Rattle.records.specs.Records.{records_to, no_rows, rows_of}
use Rattle.recover.specs.declared.Recovered.{Recovered}
use Rattle.stages.specs.Stages.{too_high, recovering, recovery}

-- the steps of a call to which so many records are lent, each with its stage: a refused one makes none
unfoldable pub called : List ℕ → ℕ → List Staged
called l lent = cond (leb (sectors_of l) lent) (recovery l) []

unfoldable pub calling : List ℕ → ℕ → List Step
calling l lent = untag (called l lent)

-- "recovery 1, 2, 6; then steps"
unfoldable pub recover_table : List ℕ → ℕ → ℕ → List Line
recover_table l lent n =
    1 when not (whole_sectors l) ∷  -- "image not 2 to 16 whole sectors"
    2 when ltb lent (sectors_of l) ∷  -- "recovery: fewer records than sectors"
    6 when too_high (pages l) ∷  -- "recovery: k Freeing pages, k above 0, greatest sequence above 0xFFFFFFFE - k"
    7 when ltb n (length (called l lent)) ∷  -- "allowance used up before the end"
    []  -- 0 "the list of steps ended"

-- the records after an answer of a number: 0 "recovery fills the records", by the image m that it left; "Records past the sectors stay unchanged", and every
-- other number leaves them all
unfoldable pub records_after : ℕ → List ℕ → List PageRecord → List PageRecord
records_after zero m ys = records_to m (sectors_of m) ++ drop (sectors_of m) ys
records_after (suc k) m ys = ys

-- no image has a longer list of steps: a call that is allowed as many is never stopped
abbrev pub most_steps : ℕ
most_steps = 30_464

pub record RecoverPromise (l : List ℕ) (ys : List PageRecord) (n : ℕ) (m : List ℕ) (zs : List PageRecord) (r : Answer) : Type 0 where
  pub answer : Told (recover_table l (length ys) n) n (called l (length ys)) r
  pub image : m ≡ run (take n (calling l (length ys))) l
  pub records : zs ≡ records_after (number_of r) m ys

-- the same before the records are stored: the rows that go into them
abbrev pub rows_for : ℕ → List ℕ → Rows
rows_for zero m = rows_of m (sectors_of m)
rows_for (suc k) m = no_rows

pub record Recovers (l : List ℕ) (lent n : ℕ) (m : List ℕ) (r : Recovered) : Type 0 where
  pub answer : Told (recover_table l lent n) n (called l lent) r.answer
  pub image : m ≡ run (take n (calling l lent)) l
  pub rows : r.rows ≡ rows_for (number_of r.answer) m

-- ---- the answer that these promises determine, as a value: for the code, and for callers with fixed arguments

unfoldable pub whole_answer : List ℕ → ℕ → Answer
whole_answer l n = cond (too_high (pages l)) SequencesSpent (answer_of n (recovering l))

unfoldable pub recover_answer : List ℕ → ℕ → ℕ → Answer
recover_answer l lent n = cond (whole_sectors l) (cond (leb (sectors_of l) lent) (whole_answer l n) FewRecords) NotSectors
