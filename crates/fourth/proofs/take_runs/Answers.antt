-- `fourth::take_runs` meets its contract: run by run the groups' items go, and those left stand where they stood. Assumes nothing.
use mathlib.Core.Path.{◌≡◌, ap, ◌∙◌}
use Prim.Native.Nat.{◌-◌}
use native.Mathlib.Omega.{arith}
use lib.ListN.{length, take, drop, length-drop}
use lib.Seq.{length-take-le}
use borrow.Author.Rules.{rules}
use borrow.Rule.Slice.PartMut.{mid_len, put_mid}
use Rattle.flash.proofs.Laws.{goes_start, goes_on, goes_out, goes_end}
use Rattle.found.proofs.Alike.{alike_trans}
use Rattle.sort.proofs.Room.{behind-put}
use Rattle.duplicates.proofs.OneGroup.{lent}
use Rattle.duplicates.proofs.Rest.{runs_left, placed_left, fits, placed_run, same_run, items-run, steps_left, kept-behind, steps_none}
use Rattle.fourth.proofs.take_runs.Goals as goal

pub loop-a-init : goal.loop-a-init
loop-a-init c = (runs_left _ _ _, goes_start _ _ _)

pub run_end-m-requires : goal.run_end-m-requires
run_end-m-requires c =
    let l = c.loop-a in
    let h = l.invariant.0 in (
      placed_left h c.requires.0,
      rw (length-take-le (c.args.n - l.a) (drop l.a l.room) (rw (length-drop l.a l.room) (omega (arith, h.size, h.upto, c.requires.1, c.requires.2)))) (omega (arith, c.loop-a-test.true)),
    )

pub take_run-requires : goal.take_run-requires
take_run-requires c =
    let l = c.loop-a in
    let h = l.invariant.0 in
    let more = c.loop-a-test.true in
    let run = c.run_end-m.ensures in
    let few = fits h c.requires.0 run in (
      rw (lent l.room l.a) (placed_run h c.requires.0 run),
      omega (arith, run.more),
      omega (arith, few, c.requires.1),
      rw (lent l.room l.a, length-drop l.a l.room) (omega (arith, few, more, h.size, c.requires.1, c.requires.2)),
      rw (lent l.room l.a) (same_run h c.requires.0 run (omega (arith, more))),
    )

pub returns-in_err-left : goal.returns-in_err-left
returns-in_err-left c =
    let l = c.loop-a in
    let h = l.invariant.0 in
    let run = c.run_end-m.ensures in
    let turn = c.take_run.ensures in (
      goes_out _ l.invariant.1 (steps_left h c.requires.0 run) (rw (lent l.room l.a, items-run h c.requires.0 run) at turn.0) c.in_err-left.was c.from_residual.ensures.0,
      alike_trans h.like turn.1,
    )

pub loop-a-smaller : goal.loop-a-smaller
loop-a-smaller c =
    let run = c.run_end-m.ensures in
    omega (arith, run.more, c.loop-a-test.true)

pub loop-a-preserved : goal.loop-a-preserved
loop-a-preserved c =
    let l = c.loop-a in
    let h = l.invariant.0 in
    let s = l.room in
    let at = l.a in
    let m = c.run_end-m.result in
    let run = c.run_end-m.ensures in
    let turn = c.take_run.ensures in
    let last = c.take_run.new.s in
    let few = fits h c.requires.0 run in
    let enough : length last ≡ length s - at = c.take_run.auto.s ∙ mid_len at (length s) s (omega arith) in
    let behind : drop m (take 2016 (drop at (put_mid at (length s - at) s last))) ≡ drop m (take 2016 (drop at s)) =
    ap (drop m) (behind-put at (length s - at) s last (omega (arith, h.size, h.upto, c.requires.1, c.requires.2)) 2016 (omega (arith, enough, h.size, h.upto, c.requires.1, c.requires.2))) ∙ (rw (lent s at) at turn.2) in (
      kept-behind h c.requires.0 run 2016 (omega (arith, c.requires.1)) turn.1 (search rules) behind,
      goes_on l.invariant.1 (steps_left h c.requires.0 run) (rw (lent s at, items-run h c.requires.0 run) at turn.0) c.in_ok-left.was,
    )

pub returns : goal.returns
returns c =
    let l = c.loop-a in
    let a = c.args in
    (goes_end l.invariant.1 (steps_none a.image.now a.room.now a.n l.a c.loop-a-test.false), l.invariant.0.like)
