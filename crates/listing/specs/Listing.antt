-- Rule. Document 01, Cases, the listing program: its text, of the image l that was given and of its length. Read so (R40): records enough are lent. Assumes
-- nothing.
use Rattle.std.specs.Prelude.{◌≡◌, cond, List, [], ◌∷◌, ◌++◌, ℕ, suc, ◌/◌, length, take, drop}
use Rattle.flash.specs.Step.{run}
use Rattle.page.specs.declared.«record».PageRecord.{PageRecord}
use Rattle.table.specs.Table.{sectors_of}
use Rattle.answer.specs.declared.Answer.{Answer}
use Rattle.answer.specs.Answer.{refusal}
use Rattle.records.specs.Records.{records_to}
use Rattle.recover.specs.Promise.{recover_answer, calling}
use Rattle.lines.specs.Lines.{line, head}

-- the lines of the records rs, the first of which is of sector n
unfoldable pub lines : ℕ → List PageRecord → List ℕ
lines n [] = []
lines n (r ∷ rs) = line n r ++ lines (suc n) rs

-- "then lists the records": of the image m that recovery left; "a refused image gets the first line only"
unfoldable pub lines_for : Answer → List ℕ → List ℕ
lines_for a m = cond (refusal a) [] (lines 0 (records_to m (sectors_of m)))

-- "an allowance that no list reaches"; the records of 16 sectors, the most that an image has
abbrev pub allowance : ℕ
allowance = 0xFFFF_FFFF_FFFF_FFFF

abbrev pub lent : ℕ
lent = 16

-- "recovers its image"
abbrev pub image_after : List ℕ → List ℕ
image_after l = run (take allowance (calling l lent)) l

abbrev pub answered : List ℕ → Answer
answered l = recover_answer l lent allowance

-- "`sectors` is the length over 4,096 rounded down"
unfoldable pub listing : List ℕ → ℕ → List ℕ
listing l bytes = head (bytes / 4096) (answered l) ++ lines_for (answered l) (image_after l)

-- no listing is longer, of bytes and of a length that 64 bits hold: lent as much, the whole of it is put. Both programs lend 2,048
abbrev pub room : ℕ
room = 1_294

-- of the image l, which became m, the listing went into the bytes xs, which became ys: the first r of them, and what has no room is left out
pub record Listed (l : List ℕ) (bytes : ℕ) (m xs ys : List ℕ) (r : ℕ) : Type 0 where
  pub image : m ≡ image_after l
  pub text : take r ys ≡ take (length xs) (listing l bytes)
  pub rest : drop r ys ≡ drop r xs
