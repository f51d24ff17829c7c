-- `fourth::make_duplicates` meets its contract: the runs of the sorted places are the groups. Assumes nothing.
use mathlib.Core.Path.{◌≡◌}
use Prim.Native.Nat.{ℕ, ◌<◌}
use native.Mathlib.Omega.{arith}
use borrow.Author.Rules.{rules}
use lib.ListN.{take, get_or}
use Rattle.lists.specs.Lists.{sort_by}
use Rattle.found.specs.Places.{items_at, Placed}
use Rattle.sort.specs.declared.choice.Order.TheVariants.{Group}
use Rattle.sort.specs.Rank.{rank_at}
use Rattle.lists.specs.Merge.{below}
use Rattle.lists.proofs.Below.{each-sort}
use Rattle.sort.proofs.After.{front-sorted, sorted-items, items-keys}
use Rattle.duplicates.proofs.Local.{steps_by_runs}
use Rattle.fourth.proofs.make_duplicates.Goals as goal
use Rattle.fourth.proofs.make_duplicates.Goals.{After-sort}

-- the places after the sort
by_group : (c : After-sort) →
    let a = c.args in
    take a.n c.sort.new.s ≡ sort_by (below (rank_at a.image.now Group)) (take a.n a.room.now)
by_group c =
    front-sorted (below (rank_at c.args.image.now Group)) 2016 c.args.n c.args.room.now c.sort.new.s c.requires.1 (omega (arith, c.requires.1, c.requires.2)) c.sort.ensures

pub take_runs-requires : goal.take_runs-requires
take_runs-requires c =
    let image = c.args.image.now in
    (rw (by_group (goal.at.take_runs-requires c).After-sort) (each-sort (Placed image) (below (rank_at image Group)) (take c.args.n c.args.room.now) c.requires.0), c.requires.1, omega (arith, c.requires.2, c.sort.auto.s))

pub returns : goal.returns
returns c =
    let l = c.args.image.now in
    let ps = take c.args.n c.args.room.now in
    let small : (i : ℕ) → get_or l i 0 < 256 = λ i. search rules in
    let turn = c.take_runs.ensures in
    (rw (by_group (goal.at.returns c).After-sort, sorted-items l ps, steps_by_runs (items_at l ps) (items-keys l ps small)) at turn.0, turn.1)
