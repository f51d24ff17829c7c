-- The page chosen is one of the list with fewer than 126 Written entries; where there is such a page, one is chosen. Assumes nothing.
use mathlib.Core.Path.{◌≡◌}
use mathlib.Core.Bool.{true}
use mathlib.Core.Option.{some}
use mathlib.Core.List.{List}
use Rattle.lists.specs.Lists.{keep, some_of}
use Rattle.lists.proofs.Member.{◌∈◌}
use Rattle.lists.proofs.Search.{keep_in, in_keep, some_in, best_in, best_some}
use Rattle.table.specs.declared.Page.{Page}
use Rattle.plan.specs.Plan.{candidate, next, no_fewer_points, chosen}

module _ (ps : List Page) where
  pub chosen_in : {x : Page} → chosen ps ≡ some x → (x ∈ ps) × (candidate x ≡ true)
  unfolding chosen
  chosen_in {x} e = keep_in candidate ps x (best_in (no_fewer_points (next ps)) (keep candidate ps) x e)

  pub some_chosen : some_of candidate ps ≡ true → (x : Page) × (chosen ps ≡ some x)
  unfolding chosen
  some_chosen h =
      let c = some_in candidate ps h in
      let b = best_some (no_fewer_points (next ps)) (keep candidate ps) c.0 (in_keep candidate ps c.0 c.1 c.2) in
      (b.0, b.1)
