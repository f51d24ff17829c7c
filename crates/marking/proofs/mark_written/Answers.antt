-- `marking::mark_written` meets its contract: the steps that are left, made on the image as it is, are the whole. Assumes nothing.
use mathlib.Core.Path.{◌≡◌}
use Prim.Native.Nat.{◌+◌, ◌-◌}
use native.Mathlib.Omega.{arith}
use Rattle.flash.proofs.Laws.{goes_start, goes_on, goes_out, goes_end}
use Rattle.marking.proofs.Turns.{marking_more, marking_end}
use Rattle.marking.proofs.mark_written.Goals as goal

pub loop-e-init : goal.loop-e-init
loop-e-init c =
    let a = c.args in
    let q : a.j + a.n - a.j ≡ a.n = omega arith in
    rw q (goes_start _ _ _)

pub returns-in_err-left : goal.returns-in_err-left
returns-in_err-left c =
    goes_out _ c.loop-e.invariant (marking_more _ _ _ (omega arith)) c.state_step.ensures c.in_err-left.was c.from_residual.ensures.0

pub loop-e-preserved : goal.loop-e-preserved
loop-e-preserved c =
    goes_on c.loop-e.invariant (marking_more _ _ _ (omega arith)) c.state_step.ensures c.in_ok-left.was

pub returns : goal.returns
returns c = goes_end c.loop-e.invariant (marking_end _ _ _ (omega arith))
