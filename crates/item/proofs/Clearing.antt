-- Clearing a sector is one erasure, or nothing. Assumes nothing.
use mathlib.Core.Path.{◌≡◌}
use mathlib.Core.Bool.{Bool, true, false, cond}
use mathlib.Core.List.{List, [], ◌∷◌}
use Prim.Native.Nat.{ℕ, ◌+◌, ◌*◌}
use native.Mathlib.Omega.{arith}
use Rattle.page.specs.State.{all_ones}
use Rattle.flash.specs.Step.{erase, sector}
use Rattle.flash.proofs.Every.{Every}
use Rattle.flash.proofs.Frame.{AllIn}
use Rattle.item.specs.Initialise.{clearing}

module _ (s : ℕ) (l : List ℕ) where
  pub clearing-blank : all_ones (sector s l) ≡ true → clearing s l ≡ []
  unfolding clearing
  clearing-blank e = rw e

  pub clearing-used : all_ones (sector s l) ≡ false → clearing s l ≡ erase s ∷ []
  unfolding clearing
  clearing-used e = rw e

  pub clearing_in : AllIn (s * 4096) (s * 4096 + 4096) (clearing s l)
  unfolding clearing Every
  clearing_in = go (all_ones (sector s l))
    where
      go : (b : Bool) → AllIn (s * 4096) (s * 4096 + 4096) (cond b [] (erase s ∷ []))
      go true = tt
      go false = ((omega arith, omega arith), tt)
