-- `finish::some_like` meets its contract: the test is the comparison with the header. Assumes nothing.
use Rattle.std.proofs.Common.{◌∙◌, rules}
use borrow.Author.Tests.{tests}
use Rattle.page.specs.Walk.{walk}
use Rattle.finish.specs.Alike.{alike_by}
use Rattle.finish.proofs.Likeness.{some_is}
use Rattle.finish.proofs.judge.some_like.Goals as goal

pub returns : goal.returns
returns c =
    let a = c.args in
    c.any_item.ensures (alike_by a.by a.h.now) (λ h b long t. search (rules, tests)) ∙ some_is a.by a.h.now (walk a.s.now 126 0)
