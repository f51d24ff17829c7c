-- What a move writes to its target, as steps on the target's own bytes; and the sequence that the target has then. Assumes nothing.
use mathlib.Core.Path.{◌≡◌, sym, ap, ◌∙◌}
use mathlib.Core.List.{List, [], ◌∷◌, ◌++◌, append_assoc}
use Prim.Native.Nat.{ℕ, ◌+◌, ◌*◌, ◌^◌, ◌≤◌, ◌<◌}
use native.Mathlib.Omega.{arith}
use lib.ListN.{length, get_or}
use Rattle.word.proofs.Bytes.{le-le}
use Rattle.page.specs.State.{sequence_of}
use Rattle.page.specs.Walk.{Laid, walk}
use Rattle.flash.specs.Step.{Step, erase, run, sector, apply}
use Rattle.flash.specs.Words.{word, words}
use Rattle.flash.proofs.Erased.{length-sector}
use Rattle.flash.proofs.Every.{every_append}
use Rattle.flash.proofs.Frame.{erase_in, length_run, sector-kept}
use Rattle.flash.proofs.Laws.{run-append}
use Rattle.flash.proofs.Lent.{shift, Fit, AllFit, shift-append, sector-local}
use Rattle.flash.proofs.Lower.{fit_le, word-le}
use Rattle.flash.proofs.Words.{words_fit, words_more}
use Rattle.item.specs.Initialise.{clearing, header, initialising}
use Rattle.item.proofs.Fresh.{init_steps}
use Rattle.item.proofs.Header.{header-sequence}
use Rattle.item.proofs.Local.{header_fit, header-shift}
use Rattle.relocate.specs.Move.{copies, moving}
use Rattle.relocate.proofs.Local.{copies-shift, copies_fit}

-- the header, then the items
abbrev pub fill : ℕ → List Laid → List Step
fill q xs = init_steps q ++ copies 0 0 xs

-- the target is cleared and filled, and then the source is erased
pub moving-fills : (s t q : ℕ) (xs : List Laid) (l : List ℕ) → moving s t q xs l ≡ clearing t l ++ (shift (t * 4096) (fill q xs) ++ (erase s ∷ []))
unfolding moving initialising
moving-fills s t q xs l =
    rw
    (header-shift (t * 4096) (header q), copies-shift (t * 4096) 0 xs, append_assoc (clearing t l) (shift (t * 4096) (init_steps q)) (shift (t * 4096) (copies 0 0 xs) ++ (erase s ∷ [])), ← (append_assoc (shift (t * 4096) (init_steps q)) (shift (t * 4096) (copies 0 0 xs)) (erase s ∷ [])), ← (shift-append (t * 4096) (init_steps q) (copies 0 0 xs)))

-- the items of the bytes x
module _ (q : ℕ) (x : List ℕ) where
  fill_fit : AllFit 4096 (fill q (walk x 126 0))
  fill_fit = every_append (Fit 4096) _ _ (header_fit (header q)) (copies_fit x 126 0 0 (omega arith))

  -- word 1, which has the sequence, comes first
  abbrev others : List Step
  others = (words 0 (header q) 2 6 ++ words 0 (header q) 0 1) ++ copies 0 0 (walk x 126 0)

  others_fit : AllFit 4096 others
  others_fit =
      every_append (Fit 4096) _ _
      (every_append (Fit 4096) _ _ (words_fit 0 (header q) 4096 2 6 (omega arith)) (words_fit 0 (header q) 4096 0 1 (omega arith))) (copies_fit x 126 0 0 (omega arith))

  fill_is : fill q (walk x 126 0) ≡ word 0 (header q) 1 ∷ others
  fill_is = ap (λ (ws : List Step). (ws ++ words 0 (header q) 0 1) ++ copies 0 0 (walk x 126 0)) (words_more 0 (header q) 1 8 (omega arith))

  -- programming raises no byte
  filled-byte : (b : List ℕ) → length b ≡ 4096 → (j : ℕ) → j < 4 → get_or (run (fill q (walk x 126 0)) b) (4 + j) 0 ≤ get_or (header q) (4 + j) 0
  unfolding run
  filled-byte b e j h =
      let w = word-le 0 (header q) b 1 j (omega arith) h in
      let r = fit_le 4096 others (apply (word 0 (header q) 1) b) (4 + j) others_fit in
      rw fill_is (omega arith)

  filled-sequence : (b : List ℕ) → length b ≡ 4096 → sequence_of (run (fill q (walk x 126 0)) b) ≤ sequence_of (header q)
  filled-sequence b e = le-le (run (fill q (walk x 126 0)) b) (header q) 4 4 (filled-byte b e)

  -- the page that a move makes has no greater sequence than it was given
  pub moved-sequence : (s t : ℕ) (l : List ℕ) → (s ≡ t → ⊥) → t * 4096 + 4096 ≤ length l → q < 2 ^ 32 → sequence_of (sector t (run (moving s t q (walk x 126 0) l) l)) ≤ q
  moved-sequence s t l ne fits small =
      let m = run (clearing t l) l in
      let n = run (shift (t * 4096) (fill q (walk x 126 0))) m in
      let len : length (sector t m) ≡ 4096 = length-sector t m ∙ (let z = length_run (clearing t l) l in omega arith) in
      let kept : sector t (run (erase s ∷ []) n) ≡ sector t n =
      sector-kept t s (erase s ∷ []) n (λ e. ne (sym e)) (erase_in s) in
      let made = kept ∙ sector-local t (fill q (walk x 126 0)) m fill_fit in
      let h = header-sequence q small in
      let r = filled-sequence (sector t m) len in
      rw
      (moving-fills s t q (walk x 126 0) l, run-append (clearing t l) (shift (t * 4096) (fill q (walk x 126 0)) ++ (erase s ∷ [])) l, run-append (shift (t * 4096) (fill q (walk x 126 0))) (erase s ∷ []) m, made)
      (omega arith)
