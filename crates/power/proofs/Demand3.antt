-- Demand 3 from its general form: of a store that recovery leaves unchanged all items are left. Assumes nothing.
use mathlib.Core.Path.{◌∙◌, ◌≡◌, ap}
use mathlib.Core.List.{List}
use Prim.Native.Nat.{ℕ}
use Rattle.flash.specs.Step.{run}
use Rattle.stages.specs.Stages.{recovery}
use Rattle.power.specs.Demand3.{Demand3, Safe, Store, failing, held, recovered}
use Rattle.power.specs.General.{Leaves}
use Rattle.power.proofs.General.{general-cuts}
use Rattle.power.proofs.Plain.{plain_same}
use Rattle.power.proofs.Stores.{no_step, unsettled}

unmoved : (L : List ℕ) → Store L → recovered L ≡ L
unfolding recovered recovery run
unmoved L S = rw (S.premises.accepts, plain_same L, no_step L S)

-- what is left is what was held
pub safe_by : (L m : List ℕ) → Store L → Leaves L m → Safe L m
safe_by L m S H = record { accepts = H.accepts; items = λ x. H.items x ∙ ap (held x) (unmoved L S); once = H.once; free = H.free }

-- the demand
pub demand3 : Demand3
demand3 L S c ks = safe_by L (failing c ks L) S (general-cuts L (unsettled L S) c ks)
