-- Rule. Document 01, Result numbers: "The page list goes into lent page records, one a sector, in sector order, after recovery's last step .. Records past
-- the sectors stay unchanged." Assumes nothing.
use Rattle.std.specs.Prelude.{List, [], ◌∷◌, ◌++◌, ℕ, zero, suc, ◌-◌, take, drop, replicate}
use Rattle.flash.specs.Step.{sector}
use Rattle.page.specs.declared.state.PageState.TheVariants.{Blank}
use Rattle.page.specs.declared.«record».PageRecord.{PageRecord}
use Rattle.page.specs.Record.{record_of, free_seen, with_unread}
use Rattle.records.specs.declared.Rows.{Rows}

-- what f tells of each of the first n sectors of the image l: "one a sector, in sector order"
unfoldable pub each_to : {X : Type 0} → (List ℕ → X) → List ℕ → ℕ → List X
each_to f l zero = []
each_to f l (suc n) = each_to f l n ++ (f (sector n l) ∷ [])

-- their records
abbrev pub records_to : List ℕ → ℕ → List PageRecord
records_to l n = each_to record_of l n

-- the first n rows, and what stood from place n on: "Records past the sectors stay unchanged."
abbrev pub filled : ℕ → List PageRecord → List PageRecord → List PageRecord
filled n rows ys = take n rows ++ drop n ys

-- what fills the places of an array that no row has
abbrev pub blank_record : PageRecord
blank_record = with_unread (free_seen Blank) 0

abbrev pub no_rows : Rows
no_rows = record { rows = replicate 16 blank_record; count = 0 }

-- the rows of an image of n sectors, whole: their records, then blank ones up to the array's 16
abbrev pub rows_of : List ℕ → ℕ → Rows
rows_of l n = record { rows = records_to l n ++ replicate (16 - n) blank_record; count = n }
