-- What is to hold of recovery on an image, and where there is nothing to finish. Assumes nothing.
use mathlib.Core.Path.{◌∙◌, ◌≡◌, refl}
use mathlib.Core.Option.{none}
use mathlib.Core.List.{List, [], ◌++◌, ◌∷◌}
use Prim.Native.Nat.{ℕ}
use lib.ListN.{take}
use lib.Seq.{take-nil}
use Rattle.flash.specs.Step.{Step, run}
use Rattle.table.specs.Table.{frees, pages}
use Rattle.order.specs.Order.{kept, ordered, ordering}
use Rattle.finishing.specs.Finishing.{freeings}
use Rattle.power.proofs.Quiet.{order_none, plain-rest}
use Rattle.power.proofs.Plain.{finish_on, onward, plain, rescan}
use Rattle.power.proofs.State.{State}
use Rattle.power.proofs.Steps.{Final}

-- the list of steps where nothing is Active, or one page is
pub rec_none : (l : List ℕ) → kept (pages l) ≡ none → freeings (pages l) ≡ 1 → plain l ≡ finish_on (pages l) (frees l) l
unfolding plain onward run
rec_none l e z = let o = order_none l e in rw (o.0, o.1, z)

-- where one page is Active
pub rec_some : (l : List ℕ) → freeings (ordered (pages l)) ≡ 1 → plain l ≡ ordering (pages l) ++ finish_on (ordered (pages l)) (frees l) (run (ordering (pages l)) l)
unfolding plain onward
rec_some l z = rw z

-- the first step, and none
pub run_one : (e : Step) (ss : List Step) (l : List ℕ) → run (e ∷ ss) l ≡ run ss (run (e ∷ []) l)
unfolding run
run_one e ss l = refl

pub run-nil : (l : List ℕ) → run [] l ≡ l
unfolding run
run-nil l = refl

-- the steps up to the end of the finish stage: every cut of them is one of the images, and at their end the items are those of the store
pub record Runs (L : List ℕ) (s : ℕ) (l : List ℕ) : Type 0 where
  pub steps : List Step
  pub is : plain l ≡ steps ++ rescan steps l
  pub cut : (k : ℕ) → State L s (run (take k steps) l)
  pub end : Final L (run steps l)

-- nothing to finish
pub idle-runs : (L : List ℕ) (s : ℕ) (l : List ℕ) → State L s l → Final L l → Runs L s l
idle-runs L s l S F =
    record {
      steps = [];
      is = plain-rest l F.rest ∙ rw (run-nil l);
      cut = λ k. rw (take-nil {A = Step} k, run-nil l) S;
      end = rw (run-nil l) F;
    }
