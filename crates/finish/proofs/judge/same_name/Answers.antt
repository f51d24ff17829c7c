-- `finish::same_name` meets its contract: the first test that fails decides. Assumes nothing.
use Rattle.std.proofs.Common.{◌∙◌, sym}
use borrow.Author.Tests.{eq-eqb, ne_eqb}
use Rattle.word.specs.Number.{part}
use Rattle.lists.proofs.Member.{true≢false}
use Rattle.finish.specs.Finish.{same_bytes, name_of}
use Rattle.finish.proofs.Likeness.{same_is}
use Rattle.finish.proofs.judge.same_name.Goals as goal
use Rattle.finish.proofs.judge.same_name.Goals.{then-a-b, else-a-b}

pub returns-then-a-b-2 : goal.returns-then-a-b-2
unfolding same_bytes name_of
returns-then-a-b-2 c =
    elim c.if-a-b.branch [
      | then-a-b w ↦ rw (eq-eqb _ _ w.if-a-b.true, sym w.value-is ∙ c.if-a-b-2.true) (c.eq.ensures ∙ same_is (part c.args.a.now 8 16) (part c.args.b.now 8 16))
      | else-a-b w ↦ absurd (true≢false (sym w.value-is ∙ c.if-a-b-2.true) (ne_eqb _ _ w.if-a-b.false))
    ]

pub returns-else-a-b-2 : goal.returns-else-a-b-2
unfolding same_bytes name_of
returns-else-a-b-2 c =
    elim c.if-a-b.branch [
      | then-a-b w ↦ rw (eq-eqb _ _ w.if-a-b.true, sym w.value-is ∙ c.if-a-b-2.false) c.if-a-b-2.false
      | else-a-b w ↦ rw (ne_eqb _ _ w.if-a-b.false) c.if-a-b-2.false
    ]
