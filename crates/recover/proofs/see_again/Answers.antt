-- `recover::see_again` meets its contract. Assumes nothing.
use Rattle.recover.proofs.see_again.Goals as goal

pub returns-then-left-allowance : goal.returns-then-left-allowance
returns-then-left-allowance c = c.requires.1 c.if-left-allowance.true
