-- `blobs::judge_all` meets its contract: namespace by namespace the versions are judged. Assumes nothing.
use native.Mathlib.Omega.{arith}
use Rattle.flash.proofs.Laws.{goes_start, goes_on, goes_out, goes_end}
use Rattle.found.proofs.Alike.{alike_refl, alike_trans}
use Rattle.blobs.specs.Runs.{space_by, space_steps}
use Rattle.blobs.proofs.Passes.{gathered_still, gathered_run, items-run, pass_left, pass_end}
use Rattle.blobs.proofs.stage.judge_all.Goals as goal

pub loop-a-init : goal.loop-a-init
loop-a-init c = (alike_refl _, goes_start _ _ _)

pub space_end-e-requires : goal.space_end-e-requires
space_end-e-requires c =
    let l = c.loop-a in
    ((gathered_still space_steps space_by c.args.image.now l.image c.args.places.now l.invariant.0 c.requires).each, c.loop-a-test.true)

pub judge_space-requires : goal.judge_space-requires
judge_space-requires c =
    let l = c.loop-a in
    gathered_run space_steps space_by c.args.image.now l.image c.args.places.now l.invariant.0 c.requires l.a c.space_end-e.result c.space_end-e.ensures

pub returns-in_err-left : goal.returns-in_err-left
returns-in_err-left c =
    let l = c.loop-a in
    let run = c.space_end-e in
    let turn = c.judge_space.ensures in (
      goes_out _ l.invariant.1 (pass_left space_steps space_by c.args.image.now l.image c.args.places.now l.invariant.0 c.requires l.a run.result run.ensures)
          (rw (items-run space_steps space_by c.args.image.now l.image c.args.places.now l.invariant.0 c.requires l.a run.result run.ensures) at turn.0) c.in_err-left.was c.from_residual.ensures.0,
      alike_trans l.invariant.0 turn.1,
    )

pub loop-a-smaller : goal.loop-a-smaller
loop-a-smaller c =
    let run = c.space_end-e.ensures in omega (arith, run.more, run.upto)

pub loop-a-preserved : goal.loop-a-preserved
loop-a-preserved c =
    let l = c.loop-a in
    let run = c.space_end-e in
    let turn = c.judge_space.ensures in (
      alike_trans l.invariant.0 turn.1,
      goes_on l.invariant.1 (pass_left space_steps space_by c.args.image.now l.image c.args.places.now l.invariant.0 c.requires l.a run.result run.ensures)
          (rw (items-run space_steps space_by c.args.image.now l.image c.args.places.now l.invariant.0 c.requires l.a run.result run.ensures) at turn.0) c.in_ok-left.was,
    )

pub returns : goal.returns
returns c =
    let l = c.loop-a in
    (goes_end l.invariant.1 (pass_end space_steps space_by c.args.image.now l.image c.args.places.now l.invariant.0 c.requires l.a c.loop-a-test.false), l.invariant.0)

pub slice_bounds-judge_space-count : goal.slice_bounds-judge_space-count
slice_bounds-judge_space-count c =
    omega (arith, c.space_end-e.ensures.more)
