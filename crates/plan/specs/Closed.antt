-- Rule. Document 02, No. 12: "Show that the chosen page is always Full or Freeing once result 3 has been passed". Assumes nothing.
use Rattle.std.specs.Prelude.{◌≡◌, ◌⊎◌, Bool, false, List, ℕ}
use Rattle.std.proofs.Math.Option.{some}
use Rattle.page.specs.declared.state.PageState.TheVariants.{Full, Freeing}
use Rattle.page.specs.State.{is_free}
use Rattle.lists.specs.Lists.{some_of}
use Rattle.table.specs.declared.Page.{Page}
use Rattle.table.specs.Table.{pages, active_page}
use Rattle.plan.specs.Plan.{chosen}

-- "Blank and Corrupt sectors are free": the scan lists none of them
abbrev pub free_page : Page → Bool
free_page p = is_free p.seen.state

-- "Full or Freeing"
abbrev pub Closed : Page → Type 0
Closed x = (x.seen.state ≡ Full) ⊎ (x.seen.state ≡ Freeing)

-- of any list of pages without a free one: where no page is Active, "once result 3 has been passed", the chosen page is Full or Freeing
abbrev pub ChosenClosed : Type 0
ChosenClosed = (ps : List Page) → some_of free_page ps ≡ false → some_of active_page ps ≡ false → (x : Page) → chosen ps ≡ some x → Closed x

-- of the pages of an image
abbrev pub ImageClosed : Type 0
ImageClosed = (l : List ℕ) → some_of active_page (pages l) ≡ false → (x : Page) → chosen (pages l) ≡ some x → Closed x
