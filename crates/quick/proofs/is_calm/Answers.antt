-- `quick::is_calm` meets its contract: what was filled and tested makes the items calm, and calm items pass but where one is crowded out. Assumes nothing.
use mathlib.Core.Path.{sym, ap, ◌∙◌}
use Prim.Native.Nat.{ℕ, ◌<◌}
use mathlib.Core.List.{List, map}
use native.Mathlib.Omega.{arith}
use lib.ListN.{get_or}
use borrow.Author.Rules.{rules}
use borrow.Author.Tests.{tests}
use Rattle.lists.proofs.Member.{true≢false}
use Rattle.table.specs.Table.{listed}
use Rattle.found.specs.Found.{found}
use Rattle.found.specs.Places.{Lies, place_of}
use Rattle.lists.specs.Each.{Each}
use Rattle.table.specs.declared.Page.{Page}
use Rattle.found.proofs.Finding.{items_found}
use Rattle.quick.specs.Calm.{Calm, tot}
use Rattle.quick.proofs.Idle.{calm_same}
use Rattle.quick.proofs.Calming.{calm-items, small_items, tot_at_lem, tot_at}
use Rattle.quick.proofs.Crowding.{crowded, passes}
use Rattle.quick.proofs.is_calm.Goals as goal

-- the places of the items, and calm items by their places
abbrev places : List ℕ → List Page → List ℕ
places l pages = map place_of (found pages l)

calm-places : (l : List ℕ) (pages : List Page) → Each (Lies l) pages → Calm (λ (f : List ℕ → ℕ). tot f (found pages l)) → Calm (tot_at l (places l pages))
calm-places l pages lies C =
    calm_same (tot_at l (places l pages)) (λ (f : List ℕ → ℕ). tot f (found pages l)) (λ f. sym (tot_at_lem l (places l pages) f) ∙ ap (tot f) (items_found l pages lies)) C

pub returns-then-fill_all : goal.returns-then-fill_all
returns-then-fill_all c =
    let image = c.args.image.now in
    let pages = listed c.args.table.now in
    let small : (j : ℕ) → get_or image j 0 < 256 = λ j. omega (arith, c.type_inv.image j) in
    let named = (c.fill_all.ensures.0 c.if-fill_all.true).1 in
    let fit = c.all_fit.ensures in (
      λ e. rw (items_found image pages c.requires.0) at (calm-items _ image (places image pages) small named (sym fit ∙ search (rules, tests))),
      λ e C. absurd (true≢false (passes _ image (places image pages) (small_items image small) named (calm-places image pages c.requires.0 C)) (sym fit ∙ search (rules, tests))),
      c.fill_all.ensures.2,
    )

pub returns-else-fill_all : goal.returns-else-fill_all
returns-else-fill_all c =
    let image = c.args.image.now in
    let pages = listed c.args.table.now in
    let small : (j : ℕ) → get_or image j 0 < 256 = λ j. omega (arith, c.type_inv.image j) in
    (λ e. absurd (true≢false e c.if-fill_all.false), λ e C. crowded _ image (places image pages) (small_items image small) (calm-places image pages c.requires.0 C) (c.fill_all.ensures.1 c.if-fill_all.false), c.fill_all.ensures.2)
