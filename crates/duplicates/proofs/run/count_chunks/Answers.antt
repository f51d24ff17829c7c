-- `duplicates::count_chunks` meets its contract: the closure tests the item at each place. Assumes nothing.
use mathlib.Core.Path.{◌∙◌}
use Prim.Native.Nat.{ℕ}
use native.Mathlib.Omega.{arith}
use borrow.Author.Rules.{rules}
use borrow.Author.Tests.{tests}
use Rattle.std.proofs.lemmas.Iterator.{YieldsList-from_slice}
use Rattle.std.proofs.lemmas.Iterator.Adapters.{serves_from_places}
use Rattle.std.proofs.lemmas.Iterator.Consumers.{YieldsList-from_filter, count_from_yields_List}
use Rattle.std.proofs.lemmas.List.Sums.{count_by-le-length, length-filter}
use Rattle.lists.proofs.Each.{each_at}
use Rattle.found.specs.Found.{Found, is_chunk}
use Rattle.found.specs.Places.{item_at, Placed}
use Rattle.duplicates.proofs.Back.{kept_items}
use Rattle.duplicates.proofs.run.count_chunks.Goals as goal

pub count-requires-clause-can : goal.count-requires-clause-can
count-requires-clause-can c = (
  tt,
  tt,
  serves_from_places (YieldsList-from_slice c.args.places.now cc) (λ x q k. search rules) (λ x k h e.
      let here : Placed c.args.image.now x.now = rw e (each_at (Placed c.args.image.now) c.args.places.now x.now c.requires k h) in
      search rules),
)

pub returns : goal.returns
returns c =
    let a = c.args in
    let count = count_from_yields_List c.filter.result _ c.count.ensures.ran (YieldsList-from_filter _ (λ (p : ℕ). is_chunk (item_at a.image.now p).raw) (YieldsList-from_slice a.places.now cc) c.filter.ensures.closure (λ x b q k. search (rules, tests))) in
    let few = count_by-le-length (λ (p : ℕ). is_chunk (item_at a.image.now p).raw) a.places.now in
    let size = length-filter (λ (p : ℕ). is_chunk (item_at a.image.now p).raw) a.places.now in
    (count ∙ kept_items (λ (x : Found). is_chunk x.raw) a.image.now a.places.now, omega arith)
