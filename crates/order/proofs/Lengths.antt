-- How many steps stage 1 takes: one a page at most. Assumes nothing.
use mathlib.Core.Path.{◌≡◌, refl}
use mathlib.Core.Bool.{Bool, true, false, cond}
use mathlib.Core.Option.{Option, none, some}
use mathlib.Core.List.{List, [], ◌∷◌, ◌++◌, map}
use Prim.Native.Nat.{ℕ, ◌+◌, ◌≤◌}
use native.Mathlib.Omega.{arith}
use lib.ListN.{length, length-append, length-map}
use Rattle.flash.specs.Step.{Step}
use Rattle.item.specs.Mark.{mark_full}
use Rattle.lists.specs.Lists.{keep}
use Rattle.lists.proofs.Lengths.{length-keep}
use Rattle.table.specs.declared.Page.{Page}
use Rattle.table.specs.Table.{active_page}
use Rattle.table.specs.PagesPlaced.{PagesPlaced}
use Rattle.table.proofs.Places.{length-sum, out-times}
use Rattle.order.specs.Order.{kept, others, no_empty, order_steps, ordering}
use Rattle.order.proofs.Turns.{kept_in}

pub ordering_most : {n : ℕ} {ps : List Page} {fs : List ℕ} → PagesPlaced n ps fs → length (ordering ps) ≤ 16
unfolding ordering order_steps
ordering_most {n} {ps} {fs} h = go (kept ps) refl
  where
    go : (o : Option Page) → kept ps ≡ o → length (order_steps ps o) ≤ 16
    go none e = omega arith
    go (some a) e = last (no_empty a)
      where
        marks : List Step
        marks = map (λ (p : Page). mark_full p.sector) (keep active_page (others a ps))

        -- the kept page stands apart from the others
        few : length marks + 1 ≤ 16
        few =
            omega (arith, h.sixteen, out-times h a (kept_in ps a e) (λ (q : Page). 1), length-sum (others a ps), length-sum ps, length-keep active_page (others a ps), length-map (keep active_page (others a ps)) (λ (p : Page). mark_full p.sector))

        last : (b : Bool) → length (marks ++ cond b (mark_full a.sector ∷ []) []) ≤ 16
        last true = omega (arith, few, length-append marks (mark_full a.sector ∷ []))
        last false = omega (arith, few, length-append marks [])
