-- Rule. Document 01, Recovery, in order: the list of steps that the rules give for an image l, each with its stage. Each stage reads the image that the steps
-- before it left. Assumes nothing.
use Rattle.std.specs.Prelude.{Bool, cond, not, ◌&&◌, List, [], ◌++◌, ℕ, zero, suc, ◌-◌, leb, ltb}
use Rattle.flash.specs.Step.{run}
use Rattle.answer.specs.declared.Stage.TheVariants.{Order}
use Rattle.answer.specs.Staged.{Staged, tag, untag}
use Rattle.lists.specs.Lists.{greatest}
use Rattle.table.specs.declared.Page.{Page}
use Rattle.table.specs.Table.{whole_sectors, pages, frees, sequence}
use Rattle.order.specs.Order.{ordering, ordered}
use Rattle.finishing.specs.Finishing.{freeings, finishing}
unfoldable pub use Rattle.repair.specs.Repair.{last_stages}

-- 1 on the list, then 3 and 4 on what it left
unfoldable pub from_order : List Page → List ℕ → List Staged
from_order ps l = tag Order (ordering ps) ++ last_stages (ordered ps) (run (ordering ps) l)

-- 2, then "scan again and do 1 again"
unfoldable pub from_finish : List Page → List ℕ → List ℕ → List Staged
from_finish ps fs l = let f = finishing (freeings ps) ps fs l in let m = run (untag f) l in f ++ from_order (pages m) m

-- "if there was one": a Freeing page
unfoldable pub after_order : ℕ → List Page → List ℕ → List ℕ → List Staged
after_order zero ps fs l = last_stages ps l
after_order (suc k) ps fs l = from_finish ps fs l

unfoldable pub recovering : List ℕ → List Staged
recovering l =
    tag Order (ordering (pages l)) ++ after_order (freeings (ordered (pages l))) (ordered (pages l)) (frees l) (run (ordering (pages l)) l)

-- result 6: "k Freeing pages, k above 0, greatest sequence above 0xFFFFFFFE - k"
unfoldable pub too_high : List Page → Bool
too_high ps = leb 1 (freeings ps) && ltb (0xFFFFFFFE - freeings ps) (greatest sequence ps)

-- neither refused by 1 nor by 6
unfoldable pub accepted : List ℕ → Bool
accepted l = whole_sectors l && not (too_high (pages l))

-- the steps of a call with enough records: a refused one makes none
unfoldable pub recovery : List ℕ → List Staged
recovery l = cond (accepted l) (recovering l) []
