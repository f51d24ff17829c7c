-- The chosen page is Full or Freeing: of any list without a free and without an Active page, and so of the pages of an image. Assumes nothing.
use mathlib.Core.Path.{◌≡◌, refl, ap, ◌∙◌}
use mathlib.Core.Logic.{◌⊎◌, inl, inr}
use mathlib.Core.Bool.{false}
use mathlib.Core.List.{List}
use Prim.Native.Nat.{ℕ}
use Rattle.page.specs.declared.state.PageState.{PageState}
use Rattle.page.specs.declared.state.PageState.TheVariants.{Blank, Corrupt, Active, Full, Freeing}
use Rattle.page.specs.State.{is_free}
use Rattle.lists.specs.Lists.{keep, some_of, greatest, better, best}
use Rattle.lists.proofs.Member.{true≢false}
use Rattle.lists.proofs.Search.{some_none, none_of}
use Rattle.table.specs.Table.{pages, active, active_page}
use Rattle.table.proofs.Pages.{pages_in, page-state}
use Rattle.plan.specs.Plan.{points, chosen}
use Rattle.plan.specs.Closed.{free_page, ChosenClosed, ImageClosed}
use Rattle.plan.specs.Occurs.{Occur}
use Rattle.plan.proofs.Chosen.{chosen_in}

-- of the five states two are neither free nor Active
pub neither-closed : (s : PageState) → is_free s ≡ false → active s ≡ false → (s ≡ Full) ⊎ (s ≡ Freeing)
neither-closed Blank f a = absurd (true≢false refl f)
neither-closed Corrupt f a = absurd (true≢false refl f)
neither-closed Active f a = absurd (true≢false refl a)
neither-closed Full f a = inl refl
neither-closed Freeing f a = inr refl

pub chosen-closed : ChosenClosed
chosen-closed ps none_free none_active x e =
    let m = (chosen_in ps e).0 in
    neither-closed x.seen.state (none_of free_page ps none_free x m) (none_of active_page ps none_active x m)

-- a page of an image is no free sector
none_free : (l : List ℕ) → some_of free_page (pages l) ≡ false
none_free l = some_none free_page (pages l) (λ p m. ap is_free (page-state l p m) ∙ (pages_in l p m).2)

pub image-closed : ImageClosed
image-closed l none_active x e = chosen-closed (pages l) (none_free l) none_active x e

pub occur : Occur
unfolding some_of chosen best better keep greatest points
occur =
    record {
      full = record { none_free = refl; none_active = refl; choice = refl };
      freeing = record { none_free = refl; none_active = refl; choice = refl };
      active = refl;
      blank = refl;
    }
