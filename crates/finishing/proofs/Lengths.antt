-- How many steps stage 2 takes: a round for each Freeing page. Assumes nothing.
use mathlib.Core.Option.{Option, none, some}
use mathlib.Core.List.{List, ◌++◌}
use Prim.Native.Nat.{ℕ, zero, suc, ◌*◌, ◌≤◌}
use native.Mathlib.Omega.{arith}
use lib.ListN.{length, length-append}
use Rattle.entry.specs.States.{one}
use Rattle.flash.specs.Step.{run}
use Rattle.answer.specs.declared.Stage.TheVariants.{Finish}
use Rattle.answer.specs.Staged.{tag}
use Rattle.answer.proofs.Tagged.{length-tag}
use Rattle.lists.specs.Lists.{first_of}
use Rattle.table.specs.declared.Page.{Page}
use Rattle.table.specs.Table.{freeing_page}
use Rattle.table.proofs.Places.{one_le, length-sum}
use Rattle.finish.specs.Finish.{round}
use Rattle.lists.proofs.Sums.{sum-le}
use Rattle.finish.proofs.Lengths.{most_in_round, round_most}
use Rattle.finishing.specs.Finishing.{freeings, finish_from, finishing}

pub freeings_most : (ps : List Page) → freeings ps ≤ length ps
unfolding freeings
freeings_most ps = omega (arith, sum-le (λ (p : Page). one (freeing_page p)) (λ (p : Page). 1) ps (λ p m. one_le (freeing_page p)), length-sum ps)

pub finishing_most : (n : ℕ) (ps : List Page) (fs l : List ℕ) → length (finishing n ps fs l) ≤ most_in_round * n
unfolding finishing finish_from
finishing_most zero ps fs l = omega arith
finishing_most (suc n) ps fs l = go (first_of freeing_page ps) (finishing_most n)
  where
    go : (o : Option Page) → ((qs : List Page) (gs m : List ℕ) → length (finishing n qs gs m) ≤ most_in_round * n)
        → length (finish_from (λ (x : Page). let w = round x ps fs l in tag (Finish x.sector) w.steps ++ finishing n w.list w.free (run w.steps l)) o) ≤ most_in_round * suc n
    go none rest = omega arith
    go (some x) rest =
        let w = round x ps fs l in
        let more = finishing n w.list w.free (run w.steps l) in
        omega (arith, round_most x ps fs l, length-tag (Finish x.sector) w.steps, rest w.list w.free (run w.steps l), length-append (tag (Finish x.sector) w.steps) more)
