-- `finish::all_like` meets its contract: no item is like none. Assumes nothing.
use Rattle.std.proofs.Common.{◌∙◌, ap, rules}
use mathlib.Core.Bool.{not}
use borrow.Author.Tests.{tests}
use Rattle.page.specs.Walk.{walk}
use Rattle.finish.specs.Alike.{some_like}
use Rattle.finish.proofs.Likeness.{all_is}
use Rattle.finish.proofs.judge.all_like.Goals as goal

pub returns : goal.returns
returns c =
    let a = c.args in
    let ys = walk a.y.now 126 0 in
    ap not (c.any_item.ensures (λ h. not (some_like a.by h ys)) (λ h b long t. search (rules, tests))) ∙ all_is a.by (walk a.x.now 126 0) ys
