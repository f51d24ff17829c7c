-- `recover::is_too_high` meets its contract: without a Freeing page no sequence is taken. Assumes nothing.
use mathlib.Core.Path.{sym, ◌∙◌}
use Rattle.table.specs.Table.{listed}
use Rattle.stages.proofs.Listed.{none_freeing, some_freeing}
use Rattle.recover.proofs.is_too_high.Goals as goal

pub returns-then-count-eq0 : goal.returns-then-count-eq0
returns-then-count-eq0 c =
    let a = c.args.table.now in
    sym (none_freeing (listed a) (sym c.count_freeing-count.ensures.0 ∙ c.if-count-eq0.true))

pub returns : goal.returns
returns c =
    let a = c.args.table.now in
    let n = c.count_freeing-count.ensures.0 in
    rw (n, c.greatest_sequence.ensures) (sym (some_freeing (listed a) (λ e. c.if-count-eq0.false (n ∙ e))))
