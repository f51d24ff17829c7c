-- `plan::plan_copy` meets its contract: each test that led to a return decides the definition's. Assumes nothing.
use Rattle.std.proofs.Common.{◌≡◌, ◌∙◌, ◌+◌, ◌≤◌, ◌<◌, suc, None, Some, ap, sym, refl, arith}
use Rattle.std.specs.Result.{result_ok}
use mathlib.Core.Option.{Option, none, some}
use mathlib.Core.List.{get_last?}
use Prim.Native.Nat.{ℕ}
use borrow.Author.Tests.{lt-ltb, le-ltb}
use Rattle.lists.specs.Lists.{greatest}
use Rattle.table.specs.Table.{sequence, listed, freed}
use Rattle.plan.specs.Plan.{plan_to}
use Rattle.plan.specs.Choosing.{target_of}
use Rattle.plan.proofs.Refused.{refused}
use Rattle.plan.proofs.plan_copy.Goals as goal

none_of : (o : Option ℕ) → target_of o ≡ None → o ≡ none
none_of none e = refl
none_of (some t) e = absurd (let z : ◌≡◌ {A = ℕ} 0 1 = cc in omega arith)

some_of_it : (o : Option ℕ) (t : ℕ) → target_of o ≡ Some t → o ≡ some t
some_of_it none t e = absurd (let z : ◌≡◌ {A = ℕ} 0 1 = cc in omega arith)
some_of_it (some u) t e = cc

pub returns-in_err-target : goal.returns-in_err-target
unfolding plan_to
returns-in_err-target c =
    let out = refused c.last_free.result c.ok_or.ensures.value c.in_err-target.was c.from_residual.ensures.1 in
    let e : get_last? (freed c.args.table.now) ≡ none = none_of _ (sym c.last_free.ensures ∙ out.0) in
    rw e out.1

pub returns-then-top-gt4294967293 : goal.returns-then-top-gt4294967293
unfolding plan_to
returns-then-top-gt4294967293 c =
    let e = some_of_it (get_last? (freed c.args.table.now)) _ (sym c.last_free.ensures ∙ c.ok_or.ensures.ok_part ∙ ap result_ok c.in_ok-target.was) in
    let h : 0xFFFF_FFFD < greatest sequence (listed c.args.table.now) = omega (arith, c.requires) in
    rw (e, lt-ltb _ _ h)

pub returns : goal.returns
unfolding plan_to
returns c =
    let e = some_of_it (get_last? (freed c.args.table.now)) _ (sym c.last_free.ensures ∙ c.ok_or.ensures.ok_part ∙ ap result_ok c.in_ok-target.was) in
    let h : greatest sequence (listed c.args.table.now) ≤ 0xFFFF_FFFD = omega (arith, c.requires) in
    let n : c.args.top + 1 ≡ suc (greatest sequence (listed c.args.table.now)) = omega (arith, c.requires) in
    rw (e, le-ltb _ _ h, n)
