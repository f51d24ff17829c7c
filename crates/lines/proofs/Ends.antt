-- Document 02, No. 7: "A page's listing line ends with ` unread` and that number", the record's; the line of a free sector ends with its state, as before.
-- Assumes nothing.
use mathlib.Core.Path.{◌≡◌, refl}
use mathlib.Core.Bool.{true, false}
use mathlib.Core.List.{◌++◌, append_assoc}
use Prim.Native.Nat.{ℕ}
use Rattle.page.specs.declared.«record».PageRecord.{PageRecord}
use Rattle.page.specs.State.{is_free}
use Rattle.text.specs.Text.{word, space, newline, decimal, field}
use Rattle.lines.specs.Lines.{state_name, counts, page_text, line}

module _ (n : ℕ) (r : PageRecord) where
  pub page_ends : is_free r.state ≡ false
      → line n r ≡ (decimal n ++ (space ++ (state_name r.state ++ (space ++ (decimal r.sequence ++ counts r))))) ++ (field (word "unread") r.unread ++ newline)
  unfolding page_text line
  page_ends e = rw e (simp append_assoc refl)

  pub free_ends : is_free r.state ≡ true → line n r ≡ decimal n ++ (space ++ (state_name r.state ++ newline))
  unfolding line
  free_ends e = rw e
