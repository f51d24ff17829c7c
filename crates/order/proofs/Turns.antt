-- A turn of each loop of stage 1, and a list whose pages are closed one by one. Assumes nothing.
use mathlib.Core.Path.{◌≡◌}
use mathlib.Core.Bool.{true, false, cond}
use mathlib.Core.Option.{some}
use mathlib.Core.List.{List, [], ◌∷◌, ◌++◌, map}
use Rattle.lists.specs.Lists.{keep}
use Rattle.table.specs.declared.Page.{Page}
use Rattle.table.specs.Table.{active_page, as_full}
use Rattle.item.specs.Mark.{mark_full}
use Rattle.lists.proofs.Member.{◌∈◌}
use Rattle.lists.proofs.Search.{keep_in, best_in}
use Rattle.order.specs.Order.{newer_page, kept, others, no_empty, order_steps, order_list, ordering, ordered}
use Rattle.order.specs.Turns.{closed_page, full_marks, kept_mark}

module _ (x : Page) (xs : List Page) where
  pub marks-active : active_page x ≡ true → full_marks (x ∷ xs) ≡ mark_full x.sector ∷ full_marks xs
  unfolding full_marks keep
  marks-active e = rw e

  pub marks-other : active_page x ≡ false → full_marks (x ∷ xs) ≡ full_marks xs
  unfolding full_marks keep
  marks-other e = rw e

-- the stage, where a page is kept
module _ (ps : List Page) (a : Page) (e : kept ps ≡ some a) where
  pub kept_in : a ∈ ps
  unfolding kept
  kept_in = (keep_in active_page ps a (best_in newer_page (keep active_page ps) a e)).0

  pub ordering_is : ordering ps ≡ full_marks (others a ps) ++ kept_mark a
  unfolding ordering order_steps full_marks kept_mark
  ordering_is = rw e

  pub ordered_is : ordered ps ≡ map closed_page (others a ps) ++ (cond (no_empty a) (as_full a) a ∷ [])
  unfolding ordered order_list
  ordered_is = rw e
