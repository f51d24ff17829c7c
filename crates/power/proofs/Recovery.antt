-- Recovery on each of the images. Assumes nothing.
use mathlib.Core.Path.{refl}
use mathlib.Core.List.{List}
use Prim.Native.Nat.{◌<◌, ℕ}
use lib.ListN.{get_or}
use Rattle.power.proofs.State.{Good, State, done, full, gone, junk, partly, same}
use Rattle.power.proofs.Runs.{Runs, idle-runs}
use Rattle.power.proofs.Complete.{full_runs}
use Rattle.power.proofs.Unmade.{junk-runs}
use Rattle.power.proofs.Steps.{done_final, gone_final, same_final}
use Rattle.power.proofs.Partly.{part-runs}

module _ (L : List ℕ) (s : ℕ) (G : Good L s) (small : (i : ℕ) → get_or L i 0 < 256) where
  -- from whichever image it is begun
  pub runs : (l : List ℕ) → State L s l → Runs L s l
  runs l (same k) = rw k (idle-runs L s L (same refl) (same_final L s G small))
  runs l (junk D R t h w F) = junk-runs L s G small l D R t h w F
  runs l (partly t q D R T m P) = part-runs L s G small l t q D R T m P
  runs l (full t q D R T m E) = full_runs L s G small l t q D R T m E
  runs l (done t q D f T W E) = idle-runs L s l (done t q D f T W E) (done_final L s G small l t q D f T W E)
  runs l (gone D f F x) = idle-runs L s l (gone D f F x) (gone_final L s G small l D f F x)
