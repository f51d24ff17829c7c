-- Document 01's example, as document 02, No. 7 amends it: the text of a Blank sector and of a Full page, sequence 7, of three Written entries, none of them
-- unread, and two Erased ones. Assumes nothing.
use mathlib.Core.Path.{◌≡◌, refl}
use mathlib.Core.List.{[], ◌∷◌, ◌++◌}
use Rattle.page.specs.declared.state.PageState.TheVariants.{Full}
use Rattle.records.specs.Records.{blank_record}
use Rattle.answer.specs.declared.Answer.TheVariants.{Done}
use Rattle.text.specs.Text.{word, spelled, decimal}
use Rattle.lines.specs.Lines.{counts, page_text, line, head}
use Rattle.listing.specs.Listing.{lines}

pub example :
    head 2 (Done 0) ++ lines 0 (blank_record ∷ record { state = Full; sequence = 7; written = 3; erased = 2; empty = 121; illegal = 0; unread = 0 } ∷ []) ≡
    word "sectors 2 result 0 steps 0\n0 blank\n1 full 7 written 3 erased 2 empty 121 illegal 0 unread 0\n"
unfolding spelled decimal counts page_text line lines head
example = refl
