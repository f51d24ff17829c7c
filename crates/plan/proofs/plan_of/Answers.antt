-- `plan::plan_of` meets its contract: each test that led to a return decides the definition's. Assumes nothing.
use Rattle.std.proofs.Common.{◌∙◌, sym, ap}
use Rattle.std.specs.Result.{result_ok}
use borrow.Author.Tests.{eq-eqb, ne_eqb}
use Rattle.table.specs.Table.{listed}
use Rattle.table.proofs.Seeking.{sought_found, sought_nothing}
use Rattle.plan.specs.Plan.{chosen, plan_with, plan}
use Rattle.plan.proofs.Refused.{refused}
use Rattle.plan.proofs.plan_of.Goals as goal

pub returns-then-any_active : goal.returns-then-any_active
unfolding plan plan_with
returns-then-any_active c = rw (← c.any_active.ensures, c.if-any_active.true)

pub returns-in_err-p : goal.returns-in_err-p
unfolding plan plan_with
returns-in_err-p c =
    let out = refused c.choose.result c.ok_or.ensures.value c.in_err-p.was c.from_residual.ensures.1 in
    rw (← c.any_active.ensures, c.if-any_active.false, sought_nothing (chosen (listed c.args.table.now)) (sym out.0 ∙ c.choose.ensures)) out.1

pub returns-then-p-eq-ALL_ENTRIES : goal.returns-then-p-eq-ALL_ENTRIES
unfolding plan plan_with
returns-then-p-eq-ALL_ENTRIES c =
    let e = sought_found (chosen (listed c.args.table.now)) c.in_ok-p.p (sym (c.ok_or.ensures.ok_part ∙ ap result_ok c.in_ok-p.was) ∙ c.choose.ensures) in
    rw (← c.any_active.ensures, c.if-any_active.false, e, eq-eqb _ _ c.if-p-eq-ALL_ENTRIES.true, c.from.ensures)

pub returns : goal.returns
unfolding plan plan_with
returns c =
    let e = sought_found (chosen (listed c.args.table.now)) c.in_ok-p.p (sym (c.ok_or.ensures.ok_part ∙ ap result_ok c.in_ok-p.was) ∙ c.choose.ensures) in
    rw (c.plan_copy.ensures, ← c.any_active.ensures, c.if-any_active.false, e, ne_eqb _ _ c.if-p-eq-ALL_ENTRIES.false, c.from-2.ensures)
