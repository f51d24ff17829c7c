-- `finishing::finish_all` meets its contract: whoever makes the rounds that are left has made them all. Assumes nothing.
use mathlib.Core.Option.{none, some}
use mathlib.Core.Path.{◌≡◌, sym, ◌∙◌}
use Prim.Native.Nat.{◌-◌, ◌+◌}
use native.Mathlib.Omega.{arith}
use Rattle.page.specs.declared.state.PageState.TheVariants.{Freeing}
use Rattle.answer.specs.declared.Stage.TheVariants.{Finish}
use Rattle.answer.proofs.Made.{making_start, making_out, making_end, stage_on}
use Rattle.lists.specs.Lists.{first_of}
use Rattle.table.specs.Table.{freeing_page, listed, freed}
use Rattle.table.specs.Sought.{in_state}
use Rattle.table.proofs.Seeking.{first_same, freeing_is, sought_found, sought_nothing}
use Rattle.finishing.proofs.Rounds.{rounds_none, rounds_idle, rounds_more, left_more}
use Rattle.finishing.proofs.finish_all.Goals as goal
use Rattle.finishing.proofs.finish_all.Goals.{In-Some}

pub loop-init : goal.loop-init
loop-init c =
    let all : c.args.rounds - 0 ≡ c.args.rounds = omega arith in
    rw all (record { placed = c.requires.0; below = c.requires.1; making = making_start _ _ _ })

-- the source is the first that counts as Freeing
source : (c : In-Some) → first_of freeing_page (listed c.loop.table) ≡ some c.in-Some.x
source c = sym (first_same (in_state Freeing) freeing_page freeing_is _) ∙ sought_found _ _ (sym c.in-Some.is ∙ c.first_in.ensures)

pub returns-in_default : goal.returns-in_default
returns-in_default c =
    let t = c.loop.table in
    let e : first_of freeing_page (listed t) ≡ none =
    sym (first_same (in_state Freeing) freeing_page freeing_is _) ∙ sought_nothing _ (sym c.in_default.is ∙ c.first_in.ensures) in
    making_end c.loop.invariant.making (rounds_idle (listed t) (freed t) c.loop.image (c.args.rounds - c.loop.counter) e)

pub round-requires : goal.round-requires
round-requires c =
    let i = c.loop.invariant in
    (i.placed, source (goal.at.round-requires c).In-Some, omega (arith, i.below))

pub returns-in_err-left : goal.returns-in_err-left
returns-in_err-left c =
    let t = c.loop.table in
    let more = rounds_more (listed t) (freed t) c.loop.image (c.args.rounds - c.loop.counter) _ (omega arith) (source (goal.at.returns-in_err-left c).In-Some) in
    making_out c.loop.invariant.making (Finish c.in-Some.x.sector) _ more c.round.ensures.made.did (rw c.from.ensures at c.in_stage.ensures) c.in_err-left.was c.from_residual.ensures.1

pub loop-preserved : goal.loop-preserved
loop-preserved c =
    let n : c.args.rounds - c.loop.counter - 1 ≡ c.args.rounds - (c.loop.counter + 1) = omega arith in
    let made = stage_on _ c.in_stage.ensures c.in_ok-left.was in
    rw (← n) (left_more _ c.loop.invariant (omega arith) (source (goal.at.loop-preserved c).In-Some) c.round.ensures.made made)

pub returns : goal.returns
returns c =
    let t = c.loop.table in
    making_end c.loop.invariant.making (rounds_none (listed t) (freed t) c.loop.image (c.args.rounds - c.loop.counter) (omega arith))
