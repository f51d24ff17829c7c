-- Rule. Document 01, Cases, the listing program: its lines. Read so (R40): numbers are decimal, every line ends in a newline, the last too. Document 02, No. 7:
-- "A page's listing line ends with ` unread` and that number." Assumes nothing.
use Rattle.std.specs.Prelude.{cond, List, [], ◌++◌, ℕ}
use Rattle.page.specs.declared.state.PageState.{PageState}
use Rattle.page.specs.declared.state.PageState.TheVariants.{Blank, Corrupt, Active, Full, Freeing}
use Rattle.page.specs.declared.«record».PageRecord.{PageRecord}
use Rattle.page.specs.State.{is_free}
use Rattle.answer.specs.declared.Answer.{Answer}
use Rattle.answer.specs.Answer.{number_of, steps_of}
use Rattle.text.specs.Text.{word, space, newline, decimal, field}

-- "0 blank", "1 full 7 ..": "Other pages read `active` or `freeing` in the place of `full`, a Corrupt sector `corrupt` alone"
abbrev pub state_name : PageState → List ℕ
state_name Blank = word "blank"
state_name Corrupt = word "corrupt"
state_name Active = word "active"
state_name Full = word "full"
state_name Freeing = word "freeing"

-- " written 3 erased 2 empty 121 illegal 0"
unfoldable pub counts : PageRecord → List ℕ
counts r =
    field (word "written") r.written ++
    (field (word "erased") r.erased ++ (field (word "empty") r.empty ++ field (word "illegal") r.illegal))

-- " 7 written 3 ..": the sequence stands without a name. "A page's listing line ends with ` unread` and that number."
unfoldable pub page_text : PageRecord → List ℕ
page_text r = space ++ (decimal r.sequence ++ (counts r ++ field (word "unread") r.unread))

-- "0 blank", "1 full 7 written 3 ..": sector n, its state and, of a page, the rest of its record
unfoldable pub line : ℕ → PageRecord → List ℕ
line n r = decimal n ++ (space ++ (state_name r.state ++ (cond (is_free r.state) [] (page_text r) ++ newline)))

-- "sectors 2 result 0 steps 0"
unfoldable pub head : ℕ → Answer → List ℕ
head sectors a =
    word "sectors " ++ (decimal sectors ++ (field (word "result") (number_of a) ++ (field (word "steps") (steps_of a) ++ newline)))
