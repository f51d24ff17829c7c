-- Rule. Demand 3, for any cut: what a power failure leaves of a list of steps is a beginning of it. A step is made or not made, none in part. Assumes nothing.
use Rattle.std.specs.Prelude.{◌≡◌, List, ℕ, zero, suc, take}
use Rattle.flash.specs.Step.{Step, run}
use Rattle.answer.specs.Staged.{untag}
use Rattle.stages.specs.Stages.{recovery}
use Rattle.reclaim.specs.Reclaim.{reclaiming}
use Rattle.power.specs.Demand3.{Store, Safe}

-- the steps ss, cut on the image l after some number of them, leave m
abbrev pub Cut : List Step → List ℕ → List ℕ → Type 0
Cut ss l m = (k : ℕ) × (m ≡ run (take k ss) l)

-- recovery begun n times from the image l on, and cut each time, leaves m
unfoldable pub Begun : ℕ → List ℕ → List ℕ → Type 0
Begun zero l m = m ≡ l
Begun (suc n) l m = (x : List ℕ) × Cut (untag (recovery l)) l x × Begun n x m

-- reclaim cut, then recovery cut any number of times
abbrev pub PowerSafe : Type 0
PowerSafe = (l : List ℕ) → Store l → (x m : List ℕ) → Cut (reclaiming l) l x → (n : ℕ) → Begun n x m → Safe l m
