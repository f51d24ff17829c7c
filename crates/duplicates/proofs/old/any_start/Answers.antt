-- `duplicates::any_start` meets its contract: the closure tests the item at each place. Assumes nothing.
use mathlib.Core.Path.{◌∙◌}
use Prim.Native.Nat.{ℕ, ◌-◌}
use native.Mathlib.Omega.{arith}
use lib.ListN.{length}
use borrow.Author.Rules.{rules}
use borrow.Author.Tests.{tests}
use Rattle.std.proofs.lemmas.Iterator.Adapters.{YieldsList-from_rev_slice, serves_from_places}
use Rattle.std.proofs.lemmas.Iterator.Search.{any_from_yields_List}
use Rattle.std.proofs.lemmas.List.{get_or-reverse, length-reverse}
use Rattle.lists.proofs.Each.{each_at}
use Rattle.found.specs.Found.{Found}
use Rattle.found.specs.Places.{item_at, Placed}
use Rattle.duplicates.specs.Turns.{index_from}
use Rattle.duplicates.proofs.Back.{some-back}
use Rattle.duplicates.proofs.old.any_start.Goals as goal

pub any-requires-clause-callable : goal.any-requires-clause-callable
any-requires-clause-callable c =
    serves_from_places (YieldsList-from_rev_slice c.args.places.now cc) (λ x q k. search rules) (λ x k h e.
    let within = rw (length-reverse c.args.places.now) at h in
    let here : Placed c.args.image.now x.now = rw (e ∙ get_or-reverse c.args.places.now k x.now within) (each_at (Placed c.args.image.now) c.args.places.now x.now c.requires (length c.args.places.now - 1 - k) (omega arith)) in
    search rules)

pub returns : goal.returns
returns c =
    let a = c.args in
    any_from_yields_List (λ (p : ℕ). index_from a.start (item_at a.image.now p).raw) _ _ _ c.any.ensures.ran (YieldsList-from_rev_slice a.places.now cc) (λ x b q k. search (rules, tests))
    ∙ some-back (λ (x : Found). index_from a.start x.raw) a.image.now a.places.now
