-- Bridge: what a turn of each loop of stage 1 adds, and the parts of its list of steps. Assumes nothing.
use Rattle.std.specs.Prelude.{cond, List, [], ◌∷◌, map}
use Rattle.flash.specs.Step.{Step}
use Rattle.item.specs.Mark.{mark_full}
use Rattle.lists.specs.Lists.{keep}
use Rattle.table.specs.declared.Page.{Page}
use Rattle.table.specs.Table.{active_page, as_full}
use Rattle.order.specs.Order.{no_empty}

abbrev pub closed_page : Page → Page
closed_page p = cond (active_page p) (as_full p) p

-- "Other Active pages are marked Full in list order. If the kept one has no Empty entry it is marked Full."
unfoldable pub full_marks : List Page → List Step
full_marks ps = map (λ (p : Page). mark_full p.sector) (keep active_page ps)

unfoldable pub kept_mark : Page → List Step
kept_mark p = cond (no_empty p) (mark_full p.sector ∷ []) []
