-- Rule. Document 01, Reclaim: the list of steps for an image l. Assumes nothing.
use Rattle.std.specs.Prelude.{cond, List, [], ◌∷◌, ℕ, Result, Ok, Err}
use Rattle.answer.specs.declared.Answer.{Answer}
use Rattle.flash.specs.Step.{Step, erase, run}
use Rattle.item.specs.Mark.{mark_freeing}
use Rattle.relocate.specs.Move.{moving}
use Rattle.plan.specs.declared.Plan.{Plan}
use Rattle.plan.specs.declared.Plan.TheVariants.{Clear, Move}
use Rattle.table.specs.Table.{whole_sectors, pages, frees, items_in}
use Rattle.plan.specs.Plan.{plan}

-- "mark it Freeing, initialise a free sector with next, copy, erase"
unfoldable pub plan_steps : List ℕ → Result Plan Answer → List Step
plan_steps l (Err a) = []
plan_steps l (Ok (Clear s)) = erase s ∷ []
plan_steps l (Ok (Move s t q)) = let m = run (mark_freeing s ∷ []) l in mark_freeing s ∷ moving s t q (items_in s m) m

-- the steps of a call: a refused one makes none
unfoldable pub reclaiming : List ℕ → List Step
reclaiming l = cond (whole_sectors l) (plan_steps l (plan (pages l) (frees l))) []
