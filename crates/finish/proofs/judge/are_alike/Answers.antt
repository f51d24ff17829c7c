-- `finish::are_alike` meets its contract: each arm is its comparison. Assumes nothing.
use Rattle.std.proofs.Common.{◌∙◌}
use Rattle.finish.specs.Alike.{alike_by}
use Rattle.finish.proofs.Likeness.{same_is}
use Rattle.finish.proofs.judge.are_alike.Goals as goal

pub returns-in-Header : goal.returns-in-Header
unfolding alike_by
returns-in-Header c = rw c.in-Header.is (c.eq.ensures ∙ same_is _ _)

pub returns-in-Name : goal.returns-in-Name
unfolding alike_by
returns-in-Name c = rw c.in-Name.is c.same_name.ensures
