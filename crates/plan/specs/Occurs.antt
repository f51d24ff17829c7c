-- Bridge: page lists that meet the premises of document 02, No. 12, and lists that show that each premise is needed. Assumes nothing.
use Rattle.std.specs.Prelude.{◌≡◌, false, List, [], ◌∷◌}
use Rattle.std.proofs.Math.Option.{some}
use Rattle.page.specs.declared.state.PageState.{PageState}
use Rattle.page.specs.declared.state.PageState.TheVariants.{Blank, Active, Full, Freeing}
use Rattle.page.specs.Record.{free_seen}
use Rattle.lists.specs.Lists.{some_of}
use Rattle.table.specs.declared.Page.{Page}
use Rattle.table.specs.Table.{active_page}
use Rattle.plan.specs.Plan.{chosen}
use Rattle.plan.specs.Closed.{free_page}

-- of the list ps, without a free and without an Active page, x is chosen
pub record Met (ps : List Page) (x : Page) : Type 0 where
  pub none_free : some_of free_page ps ≡ false
  pub none_active : some_of active_page ps ≡ false
  pub choice : chosen ps ≡ some x

-- a page in this state, all its entries Empty
abbrev pub bare : PageState → Page
bare s = record { sector = 0; seen = record { state = s; sequence = 0; written = 0; erased = 0; empty = 126; illegal = 0 } }

-- a Blank sector with its record, were it listed
abbrev pub blank_sector : Page
blank_sector = record { sector = 0; seen = free_seen Blank }

pub record Occur : Type 0 where
  -- both states occur
  pub full : Met (bare Full ∷ []) (bare Full)
  pub freeing : Met (bare Freeing ∷ []) (bare Freeing)
  -- without the premises other states would: Active, and Blank
  pub active : chosen (bare Active ∷ []) ≡ some (bare Active)
  pub blank : chosen (blank_sector ∷ []) ≡ some blank_sector
