-- The last marks, page by page, as the loop meets the pages: ys is what a call lends of the list ps. Each page is judged by the image m as the marks so far left
-- it, which judges as the image l did, as the marks began. Assumes nothing.
use Rattle.std.proofs.Common.{◌≡◌, ◌∙◌, ◌+◌, ◌<◌, ◌≤◌, [], ◌∷◌, sym, ap, List, ℕ, Bool, true, false, length, get_or, drop}
use lib.Dec.{eqb}
use mathlib.Core.Bool.{◌&&◌}
use Rattle.entry.specs.States.{empty, count_state}
use Rattle.flash.specs.Step.{sector}
use Rattle.item.specs.Mark.{mark_full}
use Rattle.table.specs.declared.Page.{Page}
use Rattle.table.specs.Table.{active_page}
use Rattle.table.proofs.Listing.{element, listed_end}
use Rattle.duplicates.specs.Duplicates.{last_marks}
use Rattle.duplicates.proofs.Marking.{Marked, mark_more, mark_other, marks_end}

module _ {l m : List ℕ} {ps ys : List Page} (same : ys ≡ ps) (marked : Marked l m) (i : ℕ) (d : Page) (h : i < length ys) where
  abbrev p : Page
  p = get_or ys i d

  abbrev used_up : List ℕ → Bool
  used_up k = active_page p && eqb (count_state (sector p.sector k) empty) 0

  here : last_marks (drop i ps) l ≡ last_marks (p ∷ drop (i + 1) ps) l
  here = ap (λ (qs : List Page). last_marks qs l) (element ps ys same i d h)

  judged : used_up l ≡ used_up m
  judged = ap (λ (n : ℕ). active_page p && eqb n 0) (sym (marked.room p.sector))

  pub marked_here : (u : ℕ) → u ≡ p.sector → used_up m ≡ true → last_marks (drop i ps) l ≡ mark_full u ∷ last_marks (drop (i + 1) ps) l
  marked_here u e q = here ∙ rw e (mark_more l p (drop (i + 1) ps) (judged ∙ q))

  pub passed_here : used_up m ≡ false → last_marks (drop i ps) l ≡ last_marks (drop (i + 1) ps) l
  passed_here q = here ∙ mark_other l p (drop (i + 1) ps) (judged ∙ q)

pub marked_all : (l : List ℕ) (ps ys : List Page) → ys ≡ ps → (i : ℕ) → length ys ≤ i → last_marks (drop i ps) l ≡ []
marked_all l ps ys same i h = ap (λ (qs : List Page). last_marks qs l) (listed_end ps ys same i h) ∙ marks_end l
