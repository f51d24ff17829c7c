-- Rule. Document 01, Recovery: "2. Finish .. Repeat until no page counts as Freeing". Assumes nothing.
use Rattle.std.proofs.Math.Option.{Option, none, some}
use Rattle.std.specs.Prelude.{List, [], ◌++◌, ℕ, zero, suc}
use Rattle.entry.specs.States.{one}
use Rattle.flash.specs.Step.{run}
use Rattle.answer.specs.declared.Stage.TheVariants.{Finish}
use Rattle.answer.specs.Staged.{Staged, tag}
use Rattle.lists.specs.Lists.{sum_of, first_of}
use Rattle.table.specs.declared.Page.{Page}
use Rattle.table.specs.Table.{freeing_page}
use Rattle.finish.specs.Finish.{round}

-- how many pages of the list count as Freeing
unfoldable pub freeings : List Page → ℕ
freeings ps = sum_of (λ (p : Page). one (freeing_page p)) ps

-- a round takes one away, so n is their number. "for the finish stage which source sector": every step of a round carries its source
unfoldable pub finish_from : (Page → List Staged) → Option Page → List Staged
finish_from f none = []
finish_from f (some x) = f x

unfoldable pub finishing : ℕ → List Page → List ℕ → List ℕ → List Staged
finishing zero ps fs l = []
finishing (suc n) ps fs l =
    finish_from
    (λ (x : Page). let w = round x ps fs l in tag (Finish x.sector) w.steps ++ finishing n w.list w.free (run w.steps l))
    (first_of freeing_page ps)
