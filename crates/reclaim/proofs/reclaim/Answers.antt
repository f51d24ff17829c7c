-- `reclaim::reclaim` meets its contract: the plan decides, and its steps are made under the allowance. Assumes nothing.
use Rattle.std.specs.Prelude.{Ok}
use mathlib.Core.Path.{◌≡◌, sym, ap, ap₂, ◌∙◌, subst}
use mathlib.Core.Bool.{true, false}
use native.Mathlib.Omega.{arith}
use Rattle.table.specs.Table.{whole_sectors, pages, frees}
use Rattle.plan.specs.Plan.{plan}
use Rattle.reclaim.specs.Reclaim.{plan_steps}
use Rattle.plan.proofs.Planned.{Named, named}
use Rattle.table.proofs.Whole.{whole_is}
use Rattle.reclaim.proofs.Promised.{refused_whole, promised-refusal, promised}
use Rattle.reclaim.proofs.reclaim.Goals as goal
use Rattle.reclaim.proofs.reclaim.Goals.{in-Clear, in-Move}
use Rattle.reclaim.proofs.reclaim.Goals.{After-plan_of, Else-not-is_whole}

-- the image is whole once the first test is passed
whole : (c : Else-not-is_whole) → whole_sectors c.args.image.now ≡ true
whole c = sym c.is_whole.ensures ∙ c.if-not-is_whole.false

-- the plan that is made is the definition's
planned : (c : After-plan_of)
    →
    let l = c.args.image.now in
    plan (pages l) (frees l) ≡ c.plan_of.result
planned c =
    let h = c.scan-table.ensures in
    sym (c.plan_of.ensures ∙ ap₂ plan h.list h.free)

pub returns-then-not-is_whole : goal.returns-then-not-is_whole
returns-then-not-is_whole c =
    let a = c.args in
    let e : whole_sectors a.image.now ≡ false = sym c.is_whole.ensures ∙ c.if-not-is_whole.true in
    refused_whole a.image.now a.allowance e

pub scan-table-requires : goal.scan-table-requires
scan-table-requires c =
    let w = whole_is c.args.image.now (whole (goal.at.scan-table-requires c).Else-not-is_whole) in
    (w.0, w.1)

pub erase_sector-ran-requires : goal.erase_sector-ran-requires
erase_sector-ran-requires c =
    let n = subst (Named c.args.image.now) (planned (goal.at.erase_sector-ran-requires c).After-plan_of ∙ c.in-Ok.is ∙ ap Ok c.in-Clear.is) (named c.args.image.now) in
    let w = whole_is c.args.image.now (whole (goal.at.erase_sector-ran-requires c).Else-not-is_whole) in
    omega arith

pub move_marked-ran-requires : goal.move_marked-ran-requires
move_marked-ran-requires c =
    let n = subst (Named c.args.image.now) (planned (goal.at.move_marked-ran-requires c).After-plan_of ∙ c.in-Ok.is ∙ ap Ok c.in-Move.is) (named c.args.image.now) in
    let w = whole_is c.args.image.now (whole (goal.at.move_marked-ran-requires c).Else-not-is_whole) in
    (omega arith, omega arith, n.2)

pub returns-in-Err : goal.returns-in-Err
returns-in-Err c =
    let a = c.args in
    promised-refusal a.image.now a.allowance _ (whole (goal.at.returns-in-Err c).Else-not-is_whole) (planned (goal.at.returns-in-Err c).After-plan_of ∙ c.in-Err.is)

pub returns : goal.returns
unfolding plan_steps
returns c =
    let a = c.args in
    let w = whole (goal.at.returns c).Else-not-is_whole in
    let p = planned (goal.at.returns c).After-plan_of in
    let told = rw c.in_stage.ensures at c.told.ensures in
    elim c.match-plan.branch [
      | in-Clear x ↦ promised a.image.now a.allowance _ c.match-plan.image c.match-plan.ran _ w (p ∙ c.in-Ok.is ∙ ap Ok x.in-Clear.is) (λ q. q) (rw (x.image-is, x.ran-is) x.erase_sector-ran.ensures) told
      | in-Move x ↦ promised a.image.now a.allowance _ c.match-plan.image c.match-plan.ran _ w (p ∙ c.in-Ok.is ∙ ap Ok x.in-Move.is) (λ q. q) (rw (x.image-is, x.ran-is) x.move_marked-ran.ensures) told
    ]
