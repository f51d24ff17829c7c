-- `duplicates::take_run` meets its contract: of one item, and of namespace 0, nothing goes; else the run is sorted by age. Assumes nothing.
use mathlib.Core.Path.{◌≡◌, refl, sym, ◌∙◌}
use mathlib.Core.List.{[]}
use Prim.Native.Nat.{ℕ, ◌≤◌, ◌<◌}
use native.Mathlib.Omega.{arith}
use lib.ListN.{take, get_or, length-map, length-take}
use Rattle.flash.proofs.Laws.{did_none}
use Rattle.entry.specs.Fields.{namespace_of}
use Rattle.lists.specs.Lists.{sort_by}
use Rattle.found.specs.Places.{item_at, items_at, Placed}
use Rattle.found.proofs.Alike.{alike_refl}
use Rattle.lists.proofs.Each.{each-front}
use Rattle.sort.specs.declared.choice.Order.TheVariants.{Age}
use Rattle.sort.specs.Rank.{rank_at}
use Rattle.lists.specs.Merge.{below}
use Rattle.lists.proofs.Below.{each-sort}
use Rattle.sort.proofs.After.{front-sorted, behind-kept}
use Rattle.duplicates.specs.Runs.{run_steps}
use Rattle.duplicates.proofs.OneGroup.{run_one, run_free, same_space, run_of_aged}
use Rattle.duplicates.proofs.run.take_run.Goals as goal
use Rattle.duplicates.proofs.run.take_run.Goals.{After-sort, then-m-lt2-via-then-m-lt2, then-m-lt2-via-else-m-lt2+then-namespace_at-eq0}

pub namespace_at-requires : goal.namespace_at-requires
namespace_at-requires c =
    rw c.from.ensures (each-front (Placed c.args.image.now) c.args.s.now c.args.m 0 (omega (arith, c.requires.3)) c.requires.0 0 (omega (arith, c.requires.1)))

pub returns-then-m-lt2 : goal.returns-then-m-lt2
returns-then-m-lt2 c =
    let a = c.args in
    let l = a.image.now in
    let ps = take a.m a.s.now in
    let small : (i : ℕ) → get_or l i 0 < 256 = λ i. omega (arith, c.type_inv.image i) in
    let none : run_steps (items_at l ps) ≡ [] =
    elim c.then-m-lt2.branch [
      | then-m-lt2-via-then-m-lt2 w ↦ run_one (items_at l ps) (rw (length-map ps (item_at l), length-take a.m a.s.now) (omega arith))
      | then-m-lt2-via-else-m-lt2+then-namespace_at-eq0 w ↦
          run_free (items_at l ps) (λ x m. same_space l small ps (get_or a.s.now 0 0) c.requires.4 x m ∙ rw w.from.ensures at (sym w.namespace_at.ensures ∙ w.if-namespace_at-eq0.true))
    ] in
    (rw none (did_none _ _), alike_refl _, refl)

-- the places in order of age
by_age : (c : After-sort) →
    let a = c.args in
    take a.m c.sort.new.s ≡ sort_by (below (rank_at a.image.now Age)) (take a.m a.s.now)
by_age c =
    front-sorted (below (rank_at c.args.image.now Age)) 2016 c.args.m c.args.s.now c.sort.new.s c.requires.2 (omega (arith, c.requires.3)) c.sort.ensures

pub take_aged-requires : goal.take_aged-requires
take_aged-requires c =
    let image = c.args.image.now in
    rw (by_age (goal.at.take_aged-requires c).After-sort) (each-sort (Placed image) (below (rank_at image Age)) (take c.args.m c.args.s.now) c.requires.0)

pub returns : goal.returns
returns c =
    let l = c.args.image.now in
    let m = c.args.m in
    let s = c.args.s.now in
    let first = get_or s 0 0 in
    let small : (i : ℕ) → get_or l i 0 < 256 = λ i. omega (arith, c.slice_known-1.given i) in
    let space : 1 ≤ c.namespace_at.result = omega (arith, c.if-namespace_at-eq0.false) in
    let named : 1 ≤ namespace_of (item_at l first).raw = rw (c.namespace_at.ensures, c.from.ensures) at space in
    let turn = c.take_aged.ensures in (
      rw (by_age (goal.at.returns c).After-sort, run_of_aged l small (take m s) first c.requires.4 named) at turn.0,
      turn.1,
      behind-kept (below (rank_at l Age)) 2016 m s c.sort.new.s c.requires.2 (omega (arith, c.requires.3)) c.sort.ensures,
    )
