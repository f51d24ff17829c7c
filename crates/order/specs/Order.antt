-- Rule. Document 01, Recovery: "1. Active order. The Active page of greatest sequence, the first among equals, changes places with the last of the list.
-- Other Active pages are marked Full in list order. If the kept one has no Empty entry it is marked Full." Assumes nothing.
use Rattle.std.specs.Prelude.{Bool, cond, List, [], ◌∷◌, ◌++◌, map, eqb, ltb}
use Rattle.std.proofs.Math.Option.{Option, none, some}
use Rattle.flash.specs.Step.{Step}
use Rattle.item.specs.Mark.{mark_full}
use Rattle.lists.specs.Lists.{keep, best, take_out}
use Rattle.table.specs.declared.Page.{Page}
use Rattle.table.specs.Table.{sequence, active_page, in_sector, as_full}

-- y, which stands later, goes before x: "of greatest sequence, the first among equals"
abbrev pub newer_page : Page → Page → Bool
newer_page y x = ltb (sequence x) (sequence y)

-- "The Active page of greatest sequence, the first among equals"
unfoldable pub kept : List Page → Option Page
kept ps = best newer_page (keep active_page ps)

-- "changes places with the last of the list": it is taken out, so that the last takes its place, and put at the end
abbrev pub others : Page → List Page → List Page
others a ps = take_out (in_sector a.sector) ps

abbrev pub no_empty : Page → Bool
no_empty p = eqb p.seen.empty 0

-- the steps, and the list as it then stands
unfoldable pub order_steps : List Page → Option Page → List Step
order_steps ps none = []
order_steps ps (some a) = map (λ (p : Page). mark_full p.sector) (keep active_page (others a ps)) ++ cond (no_empty a) (mark_full a.sector ∷ []) []

unfoldable pub order_list : List Page → Option Page → List Page
order_list ps none = ps
order_list ps (some a) = map (λ (p : Page). cond (active_page p) (as_full p) p) (others a ps) ++ (cond (no_empty a) (as_full a) a ∷ [])

unfoldable pub ordering : List Page → List Step
ordering ps = order_steps ps (kept ps)

unfoldable pub ordered : List Page → List Page
ordered ps = order_list ps (kept ps)
