-- `page::all_ones` meets its contract: past the last group no byte is left. Assumes nothing.
use mathlib.Core.Path.{sym, ap, ◌∙◌}
use native.Mathlib.Omega.{arith}
use lib.ListN.{drop_of_length-le}
use Rattle.page.specs.State.{all_ones}
use Rattle.page.proofs.state.all_ones.Goals as goal

pub returns : goal.returns
unfolding all_ones
returns c = sym (ap all_ones (drop_of_length-le c.args.s.now (omega arith))) ∙ c.loop-p.invariant
