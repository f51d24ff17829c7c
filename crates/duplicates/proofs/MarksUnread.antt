-- The last marks of stage 4 program state words alone, so each walk leaves as many entries unread as before. Assumes nothing.
use mathlib.Core.Path.{◌≡◌, refl, sym, ap, ◌∙◌}
use mathlib.Core.Logic.{inl, inr, ⊎_elim}
use mathlib.Core.Bool.{◌&&◌}
use mathlib.Core.List.{List, [], ◌∷◌, map}
use Prim.Native.Nat.{ℕ, zero, suc, ◌+◌, ◌*◌}
use native.Mathlib.Omega.{arith}
use lib.Dec.{eqb}
use lib.ListN.{take, drop}
use lib.Seq.{drop-drop}
use Rattle.word.specs.Number.{part}
use Rattle.entry.specs.States.{empty, count_state}
use Rattle.lists.specs.Lists.{keep}
use Rattle.lists.proofs.Parts.{drop-take}
use Rattle.page.specs.Unread.{unread_from}
use Rattle.page.proofs.Read.{unread_same}
use Rattle.flash.specs.Step.{apply, run, sector}
use Rattle.flash.proofs.Order.{le-or-gt}
use Rattle.flash.proofs.Every.{every_one}
use Rattle.flash.proofs.Frame.{In, part-kept}
use Rattle.item.specs.Mark.{mark_full}
use Rattle.table.specs.declared.Page.{Page}
use Rattle.table.specs.Table.{active_page}
use Rattle.duplicates.specs.Duplicates.{last_marks}

module _ (u : ℕ) where
  -- a sector from byte 32 on
  from_32 : (l : List ℕ) → drop 32 (sector u l) ≡ part l (u * 4096 + 32) 4064
  unfolding sector
  from_32 l = drop-take 32 4096 (drop (u * 4096) l) ∙ ap (take 4064) (drop-drop 32 (u * 4096) l)

  -- a mark leaves it
  mark_unread : (s : ℕ) (l : List ℕ) → unread_from (sector u (apply (mark_full s) l)) 126 0 ≡ unread_from (sector u l) 126 0
  unfolding run
  mark_unread s l =
      unread_same (sector u l) (sector u (apply (mark_full s) l))
      (from_32 (apply (mark_full s) l)
      ∙ part-kept (s * 4096) (s * 4096 + 4) (u * 4096 + 32) 4064 (mark_full s ∷ []) l
      (every_one (In (s * 4096) (s * 4096 + 4)) (mark_full s) (omega arith, omega arith))
      (⊎_elim (λ g. inr (omega arith)) (λ g. inl (omega arith)) (le-or-gt s u))
      ∙ sym (from_32 l)) 126 0

  pages-unread : (k : ℕ) (ps : List Page) (l : List ℕ)
      → unread_from (sector u (run (take k (map (λ (p : Page). mark_full p.sector) ps)) l)) 126 0 ≡ unread_from (sector u l) 126 0
  unfolding run
  pages-unread zero ps l = refl
  pages-unread (suc k) [] l = refl
  pages-unread (suc k) (p ∷ ps) l = pages-unread k ps (apply (mark_full p.sector) l) ∙ mark_unread p.sector l

-- wherever they are cut, and whatever image they were judged by
pub marks-unread : (ps : List Page) (l l' : List ℕ) (k u : ℕ)
    → unread_from (sector u (run (take k (last_marks ps l)) l')) 126 0 ≡ unread_from (sector u l') 126 0
unfolding last_marks
marks-unread ps l l' k u = pages-unread u k (keep (λ (p : Page). active_page p && eqb (count_state (sector p.sector l) empty) 0) ps) l'
