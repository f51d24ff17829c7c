-- `blobs::judge_start` meets its contract: run by run the group's version of the start is judged. Assumes nothing.
use mathlib.Core.Path.{◌≡◌, ap, ap₂, ◌∙◌}
use Prim.Native.Nat.{ℕ, ◌-◌}
use native.Mathlib.Omega.{arith}
use lib.ListN.{take, drop}
use Rattle.flash.proofs.Laws.{goes_start, goes_on, goes_out, goes_end}
use Rattle.found.specs.Places.{item_at, items_at, Placed}
use Rattle.found.specs.Ranks.{rank_number}
use Rattle.found.proofs.Alike.{alike_refl, alike_trans}
use Rattle.lists.proofs.Each.{each_at}
use Rattle.sort.specs.Rank.{group_by}
use Rattle.versions.specs.Versions.{version_in, judge}
use Rattle.blobs.specs.Runs.{start_steps}
use Rattle.blobs.proofs.Passes.{gathered_still, gathered_run, items-run, pass_left, first_group, pass_end}
use Rattle.blobs.proofs.stage.judge_start.Goals as goal
use Rattle.blobs.proofs.stage.judge_start.Goals.{After-judge_version}

pub loop-a-init : goal.loop-a-init
loop-a-init c = (alike_refl _, goes_start _ _ _)

pub run_end-e-requires : goal.run_end-e-requires
run_end-e-requires c =
    let l = c.loop-a in
    ((gathered_still (start_steps c.args.start) group_by c.args.image.now l.image c.args.places.now l.invariant.0 c.requires.0).each, c.loop-a-test.true)

pub group_at-g-requires : goal.group_at-g-requires
group_at-g-requires c =
    let l = c.loop-a in
    rw c.from.ensures (each_at (Placed l.image) c.args.places.now 0 (gathered_still (start_steps c.args.start) group_by c.args.image.now l.image c.args.places.now l.invariant.0 c.requires.0).each l.a c.loop-a-test.true)

pub version_in-requires : goal.version_in-requires
version_in-requires c =
    (c.group_at-g.ensures.1, c.requires.1)

pub judge_version-requires : goal.judge_version-requires
judge_version-requires c =
    let l = c.loop-a in
    gathered_run (start_steps c.args.start) group_by c.args.image.now l.image c.args.places.now l.invariant.0 c.requires.0 l.a c.run_end-e.result c.run_end-e.ensures

-- what is judged is the run's version
steps : (c : After-judge_version) →
    let l = c.loop-a in let a = c.args in let e = c.run_end-e.result in
    judge (items_at l.image (take (e - l.a) (drop l.a a.places.now))) (rank_number c.version_in.result) ≡ start_steps a.start (items_at a.image.now (drop l.a (take e a.places.now)))
unfolding start_steps
steps c =
    let l = c.loop-a in
    let start = c.args.start in
    let run = c.run_end-e in
    ap₂ judge
    (items-run (start_steps start) group_by c.args.image.now l.image c.args.places.now l.invariant.0 c.requires.0 l.a run.result run.ensures)
    (c.version_in.ensures ∙ ap (λ (k : ℕ). version_in k start) (c.group_at-g.ensures.0 ∙ ap (λ (p : ℕ). group_by (item_at l.image p)) c.from.ensures
    ∙ first_group (start_steps start) group_by c.args.image.now l.image c.args.places.now l.invariant.0 c.requires.0 l.a run.result run.ensures))

pub returns-in_err-left : goal.returns-in_err-left
returns-in_err-left c =
    let l = c.loop-a in
    let run = c.run_end-e in
    let turn = c.judge_version.ensures in (
      goes_out _ l.invariant.1 (pass_left (start_steps c.args.start) group_by c.args.image.now l.image c.args.places.now l.invariant.0 c.requires.0 l.a run.result run.ensures) (rw (steps (goal.at.returns-in_err-left c).After-judge_version) at turn.0) c.in_err-left.was c.from_residual.ensures.0,
      alike_trans l.invariant.0 turn.1,
    )

pub loop-a-smaller : goal.loop-a-smaller
loop-a-smaller c =
    let run = c.run_end-e.ensures in omega (arith, run.more, run.upto)

pub loop-a-preserved : goal.loop-a-preserved
loop-a-preserved c =
    let l = c.loop-a in
    let run = c.run_end-e in
    let turn = c.judge_version.ensures in (
      alike_trans l.invariant.0 turn.1,
      goes_on l.invariant.1 (pass_left (start_steps c.args.start) group_by c.args.image.now l.image c.args.places.now l.invariant.0 c.requires.0 l.a run.result run.ensures) (rw (steps (goal.at.loop-a-preserved c).After-judge_version) at turn.0) c.in_ok-left.was,
    )

pub returns : goal.returns
returns c =
    let l = c.loop-a in
    (goes_end l.invariant.1 (pass_end (start_steps c.args.start) group_by c.args.image.now l.image c.args.places.now l.invariant.0 c.requires.0 l.a c.loop-a-test.false), l.invariant.0)

pub slice_bounds-judge_version-count : goal.slice_bounds-judge_version-count
slice_bounds-judge_version-count c =
    omega (arith, c.run_end-e.ensures.more)
