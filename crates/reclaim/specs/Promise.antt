-- Rule. Document 01, What the promises have to say: what reclaim promises, of the image l, with n steps allowed, the image m and the answer r. Assumes
-- nothing.
use Rattle.std.specs.Prelude.{◌≡◌, Bool, true, false, not, ◌&&◌, List, [], ◌∷◌, ℕ, eqb, ltb, length, take}
use Rattle.std.proofs.Math.Option.{Option, none, some}
use Rattle.flash.specs.Step.{run}
use Rattle.answer.specs.declared.Stage.TheVariants.{Reclaim}
use Rattle.answer.specs.declared.Answer.{Answer}
use Rattle.answer.specs.Staged.{tag}
use Rattle.answer.specs.Told.{Line, ◌when◌, Told}
use Rattle.lists.specs.Lists.{some_of}
use Rattle.table.specs.declared.Page.{Page}
use Rattle.table.specs.Table.{whole_sectors, pages, frees, active_page}
use Rattle.plan.specs.Plan.{candidate, chosen, sequences_spent}
use Rattle.reclaim.specs.Reclaim.{reclaiming}

-- what holds of the page chosen
abbrev pub of_chosen : (Page → Bool) → Option Page → Bool
of_chosen f none = false
of_chosen f (some x) = f x

-- "a copy is needed": "If all 126 are Erased it is erased. Otherwise" the page is copied
abbrev pub copy_needed : List Page → Bool
copy_needed ps = of_chosen (λ (x : Page). not (eqb x.seen.erased 126)) (chosen ps)

-- "no sector free"
abbrev pub no_sector_free : List ℕ → Bool
no_sector_free [] = true
no_sector_free (f ∷ fs) = false

-- "reclaim 1, 3, 4, .. 5, 6; then steps", without the 8 (document 02, No. 12)
unfoldable pub reclaim_table : List ℕ → ℕ → List Line
reclaim_table l n =
    1 when not (whole_sectors l) ∷  -- "image not 2 to 16 whole sectors"
    3 when some_of active_page (pages l) ∷  -- "reclaim: an Active page stands"
    4 when not (some_of candidate (pages l)) ∷  -- "reclaim: no page below 126 Written"
    5 when (copy_needed (pages l) && no_sector_free (frees l)) ∷  -- "reclaim: a copy is needed, no sector free"
    6 when (copy_needed (pages l) && sequences_spent (pages l)) ∷  -- "reclaim: a copy is needed, greatest sequence above 0xFFFFFFFD"
    7 when ltb n (length (reclaiming l)) ∷  -- "allowance used up before the end"
    []  -- 0 "the list of steps ended"

-- no image has a longer list of steps: a call that is allowed as many is never stopped
abbrev pub most_steps : ℕ
most_steps = 1_271

-- "reclaim is one stage"
pub record ReclaimPromise (l : List ℕ) (n : ℕ) (m : List ℕ) (r : Answer) : Type 0 where
  pub answer : Told (reclaim_table l n) n (tag Reclaim (reclaiming l)) r
  pub image : m ≡ run (take n (reclaiming l)) l
