-- What holds of each step of a list holds of each step of its parts. Assumes nothing.
use mathlib.Core.List.{List, [], ◌∷◌, ◌++◌, reverse, reverse-cons}
use Prim.Native.Nat.{ℕ, zero, suc}
use lib.ListN.{take}
use Rattle.flash.specs.Step.{Step}

-- shut, so that a law's lists are found from the proof of it that it is handed
unfoldable pub Every : (Step → Type 0) → List Step → Type 0
Every P [] = Unit {0}
Every P (s ∷ ss) = P s × Every P ss

module _ (P : Step → Type 0) where
  pub every_none : Every P []
  unfolding Every
  every_none = tt

  pub every_one : (s : Step) → P s → Every P (s ∷ [])
  unfolding Every
  every_one s h = (h, tt)

  pub every_append : (x y : List Step) → Every P x → Every P y → Every P (x ++ y)
  unfolding Every
  every_append [] y p q = q
  every_append (s ∷ x) y p q = (p.0, every_append x y p.1 q)

  -- and turned about
  pub every_reverse : (x : List Step) → Every P x → Every P (reverse x)
  unfolding Every
  every_reverse [] p = tt
  every_reverse (s ∷ x) p = rw (reverse-cons s x) (every_append (reverse x) (s ∷ []) (every_reverse x p.1) (p.0, tt))

  -- any cut of them too: what holds at the end for this reason holds wherever the power fails
  pub every_take : (n : ℕ) (x : List Step) → Every P x → Every P (take n x)
  unfolding Every
  every_take zero x p = tt
  every_take (suc n) [] p = tt
  every_take (suc n) (s ∷ x) p = (p.0, every_take n x p.1)
