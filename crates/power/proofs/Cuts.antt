-- The general form, and demand 3, for cuts: recoveries cut one after the other are a list of numbers of steps. Assumes nothing.
use mathlib.Core.Path.{◌∙◌, ◌≡◌, ap}
use mathlib.Core.List.{List, [], ◌∷◌}
use Prim.Native.Nat.{suc, zero, ℕ}
use lib.ListN.{take}
use Rattle.flash.specs.Step.{run}
use Rattle.reclaim.specs.Reclaim.{reclaiming}
use Rattle.power.specs.Cuts.{Begun, PowerSafe}
use Rattle.power.specs.Demand3.{failing, recoveries}
use Rattle.power.specs.General.{General}
use Rattle.power.proofs.Demand3.{safe_by}
use Rattle.power.proofs.General.{general-cuts}
use Rattle.power.proofs.Stores.{unsettled}

begun-cuts : (n : ℕ) (l m : List ℕ) → Begun n l m → (ks : List ℕ) × (m ≡ recoveries ks l)
unfolding Begun recoveries
begun-cuts zero l m e = ([], e)
begun-cuts (suc n) l m (x, k, b) = let ks = begun-cuts n x m b in (k.0 ∷ ks.0, ks.1 ∙ ap (recoveries ks.0) k.1)

-- the general form
pub general : General
unfolding failing
general l U x m k n b =
    let ks = begun-cuts n x m b in
    let e : m ≡ recoveries ks.0 (run (take k.0 (reclaiming l)) l) = ks.1 ∙ ap (recoveries ks.0) k.1 in
    rw e (general-cuts l U k.0 ks.0)

-- demand 3
pub power-safe : PowerSafe
power-safe l S x m k n b = safe_by l m S (general l (unsettled l S) x m k n b)
