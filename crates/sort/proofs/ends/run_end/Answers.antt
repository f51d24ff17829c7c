-- `sort::run_end` meets its contract: the places passed are of one group. Assumes nothing.
use Rattle.std.proofs.Common.{rules, tests}
use mathlib.Core.Path.{◌≡◌, ap, ◌∙◌}
use mathlib.Core.Bool.{Bool}
use Prim.Native.Nat.{ℕ}
use lib.Dec.{eqb}
use lib.ListN.{get_or}
use Rattle.found.specs.Ranks.{rank_number}
use Rattle.found.specs.Places.{item_at, Placed}
use Rattle.lists.proofs.Each.{each_at}
use Rattle.sort.specs.Rank.{group_by}
use Rattle.sort.proofs.Ending.{run_of_test}
use Rattle.sort.proofs.ends.run_end.Goals as goal

pub group_at-g-requires : goal.group_at-g-requires
group_at-g-requires c =
    rw c.from.ensures (each_at (Placed c.args.image.now) c.args.places.now 0 c.requires.0 c.args.a c.requires.1)

pub end_of-requires-clause-callable : goal.end_of-requires-clause-callable
end_of-requires-clause-callable c =
    λ k h. let here : Placed c.args.image.now (get_or c.args.places.now k 0) = each_at (Placed c.args.image.now) c.args.places.now 0 c.requires.0 k h in search rules

pub returns : goal.returns
returns c =
    let image = c.args.image.now in
    let places = c.args.places.now in
    let g = c.group_at-g.result in
    let first : rank_number g ≡ group_by (item_at image (get_or places c.args.a 0)) = c.group_at-g.ensures.0 ∙ ap (λ (p : ℕ). group_by (item_at image p)) c.from.ensures in
    run_of_test group_by image places c.args.a _ c.end_of.result c.requires.1
    (λ (p : ℕ) (b : Bool) t. let e : b ≡ eqb (group_by (item_at image p)) (rank_number g) = search (rules, tests) in e ∙ ap (eqb _) first) c.end_of.ensures
