-- `blobs::space_end` meets its contract: the places passed are of one namespace. Assumes nothing.
use Rattle.std.proofs.Common.{rules, tests}
use mathlib.Core.Path.{◌≡◌, ap, ◌∙◌}
use mathlib.Core.Bool.{Bool}
use Prim.Native.Nat.{ℕ}
use lib.Dec.{eqb}
use lib.ListN.{get_or}
use Rattle.found.specs.Places.{item_at, Placed}
use Rattle.lists.proofs.Each.{each_at}
use Rattle.sort.proofs.Ending.{run_of_test}
use Rattle.blobs.specs.Runs.{space_by}
use Rattle.blobs.proofs.stage.space_end.Goals as goal

pub namespace_at-space-requires : goal.namespace_at-space-requires
namespace_at-space-requires c =
    rw c.from.ensures (each_at (Placed c.args.image.now) c.args.places.now 0 c.requires.0 c.args.a c.requires.1)

pub end_of-requires-clause-callable : goal.end_of-requires-clause-callable
end_of-requires-clause-callable c =
    λ k h. let here : Placed c.args.image.now (get_or c.args.places.now k 0) = each_at (Placed c.args.image.now) c.args.places.now 0 c.requires.0 k h in search rules

pub returns : goal.returns
returns c =
    let image = c.args.image.now in
    let places = c.args.places.now in
    let space = c.namespace_at-space.result in
    let first : space ≡ space_by (item_at image (get_or places c.args.a 0)) = c.namespace_at-space.ensures ∙ ap (λ (p : ℕ). space_by (item_at image p)) c.from.ensures in
    run_of_test space_by image places c.args.a _ c.end_of.result c.requires.1
    (λ (p : ℕ) (b : Bool) t. let e : b ≡ eqb (space_by (item_at image p)) space = search (rules, tests) in e ∙ ap (eqb _) first) c.end_of.ensures
