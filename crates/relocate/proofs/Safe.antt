-- Wherever a move is cut, the source is as it was until its last step, which erases it, and the other sectors are as they were. Assumes nothing.
use mathlib.Core.Path.{◌≡◌, sym, ap, ◌∙◌}
use mathlib.Core.Logic.{⊎_elim}
use mathlib.Core.List.{List, [], ◌∷◌, ◌++◌, append_assoc}
use Prim.Native.Nat.{ℕ, suc, ◌+◌, ◌*◌, ◌<◌}
use native.Mathlib.Omega.{arith}
use lib.ListN.{length, take, length-append}
use lib.Seq.{take-append-le}
use Rattle.page.specs.Walk.{walk}
use Rattle.flash.specs.Step.{Step, erase, run, sector}
use Rattle.flash.proofs.Every.{every_append, every_one, every_take}
use Rattle.flash.proofs.Laws.{run-append, cut-append}
use Rattle.flash.proofs.Frame.{In, AllIn, sector-kept}
use Rattle.item.specs.Initialise.{header, initialising}
use Rattle.item.proofs.Safe.{initialising_in}
use Rattle.relocate.specs.Move.{copies, moving}
use Rattle.relocate.proofs.Local.{copies_in}

-- the items of the bytes x
module _ (s t q : ℕ) (x l : List ℕ) where
  -- all but the last step
  abbrev building : List Step
  building = initialising t (header q) l ++ copies (t * 4096) 0 (walk x 126 0)

  moving_is : moving s t q (walk x 126 0) l ≡ building ++ (erase s ∷ [])
  unfolding moving
  moving_is = sym (append_assoc (initialising t (header q) l) (copies (t * 4096) 0 (walk x 126 0)) (erase s ∷ []))

  building_in : AllIn (t * 4096) (t * 4096 + 4096) building
  building_in = every_append (In (t * 4096) (t * 4096 + 4096)) _ _ (initialising_in t (header q) l) (copies_in (t * 4096) x)

  leaves : (u c : ℕ) → (u ≡ t → ⊥) → sector u (run (take c building) l) ≡ sector u l
  leaves u c ne = sector-kept u t (take c building) l ne (every_take (In (t * 4096) (t * 4096 + 4096)) c building building_in)

  pub source_stays : (s ≡ t → ⊥) → (c : ℕ) → c < length (moving s t q (walk x 126 0) l) → sector s (run (take c (moving s t q (walk x 126 0) l)) l) ≡ sector s l
  source_stays ne c h =
      let n = length-append building (erase s ∷ []) in
      let k = ap length moving_is in
      ap (λ (z : List Step). sector s (run z l)) (ap (take c) moving_is ∙ take-append-le c building (erase s ∷ []) (omega arith)) ∙ leaves s c ne

  pub others-stay : (u : ℕ) → (u ≡ s → ⊥) → (u ≡ t → ⊥) → (c : ℕ) → sector u (run (take c (moving s t q (walk x 126 0) l)) l) ≡ sector u l
  others-stay u us ut c =
      rw moving_is (⊎_elim (λ e. rw e (leaves u c ut)) (λ e. rw (e.1, run-append building (take (suc e.0) (erase s ∷ [])) l) (last e.0)) (cut-append c building (erase s ∷ [])))
    where
      last : (j : ℕ) → sector u (run (take (suc j) (erase s ∷ [])) (run building l)) ≡ sector u l
      last j =
          sector-kept u s _ (run building l) us
          (every_take (In (s * 4096) (s * 4096 + 4096)) (suc j) (erase s ∷ []) (every_one (In (s * 4096) (s * 4096 + 4096)) (erase s) (omega arith, omega arith)))
          ∙ sector-kept u t building l ut building_in
