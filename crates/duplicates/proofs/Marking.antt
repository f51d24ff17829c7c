-- The last marks of stage 4, page by page: a mark changes no entry state, so each page is judged as when the marks began. Assumes nothing.
use mathlib.Core.Path.{◌≡◌, refl, sym, ap, ◌∙◌}
use mathlib.Core.Logic.{inl, inr, ⊎_elim}
use mathlib.Core.Bool.{Bool, true, false, ◌&&◌}
use mathlib.Core.List.{List, [], ◌∷◌}
use Prim.Native.Nat.{ℕ, ◌+◌, ◌*◌, ◌/◌, ◌%◌, ◌^◌, ◌<◌}
use native.Mathlib.Omega.{arith}
use lib.Dec.{eqb}
use lib.ListN.{length, get_or, take}
use Rattle.word.proofs.Bytes.{part-byte}
use Rattle.entry.specs.States.{empty, state_at, count_state}
use Rattle.entry.proofs.Counting.{count_ext}
use Rattle.flash.specs.Step.{sector}
use Rattle.flash.specs.Did.{Did, Ran}
use Rattle.flash.proofs.Order.{le-or-gt}
use Rattle.flash.proofs.Every.{every_one, every_take}
use Rattle.flash.proofs.Frame.{In, Outside, length_run, run-other}
use Rattle.item.specs.Mark.{mark_full}
use Rattle.lists.specs.Lists.{keep}
use Rattle.table.specs.declared.Page.{Page}
use Rattle.table.specs.Table.{active_page}
use Rattle.duplicates.specs.Duplicates.{last_marks}

-- as many Empty entries on each page
pub record Marked (l m : List ℕ) : Type 0 where
  pub size : length m ≡ length l
  pub room : (u : ℕ) → count_state (sector u m) empty ≡ count_state (sector u l) empty

pub marked_none : (l : List ℕ) → Marked l l
marked_none l = record { size = refl; room = λ u. refl }

-- the entry states of sector u lie outside the page state of sector s
states-outside : (s u q : ℕ) → q < 32 → Outside (s * 4096) (s * 4096 + 4) (u * 4096 + (32 + q))
states-outside s u q h = ⊎_elim (λ g. inr g) (λ g. inl (omega arith)) (le-or-gt (s * 4096 + 4) (u * 4096 + (32 + q)))

module _ {n : ℕ} {m k : List ℕ} {r : Ran} (s : ℕ) (did : Did (mark_full s ∷ []) n m k r) where
  byte-kept : (j : ℕ) → Outside (s * 4096) (s * 4096 + 4) j → get_or k j 0 ≡ get_or m j 0
  byte-kept j o =
      ap (λ (x : List ℕ). get_or x j 0) did.image
      ∙ run-other (s * 4096) (s * 4096 + 4) (take n (mark_full s ∷ [])) m j (every_take (In (s * 4096) (s * 4096 + 4)) n (mark_full s ∷ []) (every_one (In (s * 4096) (s * 4096 + 4)) (mark_full s) (omega arith, omega arith))) o

  state-kept : (u i : ℕ) → i < 126 → state_at (sector u k) i ≡ state_at (sector u m) i
  unfolding state_at sector
  state-kept u i h =
      ap (λ (b : ℕ). b / 2 ^ (2 * (i % 4)) % 4) (
      part-byte k (u * 4096) 4096 (32 + i / 4) (omega arith)
      ∙ byte-kept (u * 4096 + (32 + i / 4)) (states-outside s u (i / 4) (omega arith))
      ∙ sym (part-byte m (u * 4096) 4096 (32 + i / 4) (omega arith))
      )

  pub marked_more : {l : List ℕ} → Marked l m → Marked l k
  marked_more h =
      record {
        size = ap length did.image ∙ length_run (take n (mark_full s ∷ [])) m ∙ h.size;
        room = λ u. count_ext empty (state_at (sector u k)) (state_at (sector u m)) 126 (λ i g. state-kept u i g) ∙ h.room u;
      }

-- one page more, in front
module _ (l : List ℕ) (p : Page) (ps : List Page) where
  abbrev used_up : Bool
  used_up = active_page p && eqb (count_state (sector p.sector l) empty) 0

  pub mark_more : used_up ≡ true → last_marks (p ∷ ps) l ≡ mark_full p.sector ∷ last_marks ps l
  unfolding last_marks keep
  mark_more e = rw e

  pub mark_other : used_up ≡ false → last_marks (p ∷ ps) l ≡ last_marks ps l
  unfolding last_marks keep
  mark_other e = rw e

pub marks_end : (l : List ℕ) → last_marks [] l ≡ []
unfolding last_marks keep
marks_end l = refl
