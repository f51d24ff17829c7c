-- `entry::key_same` meets its contract: keys are compared as their numbers are. Assumes nothing.
use mathlib.Core.Path.{◌∙◌}
use native.Mathlib.Omega.{arith}
use Rattle.entry.proofs.Order.{key-eqb}
use Rattle.entry.proofs.fields.key_same.Goals as goal

pub returns : goal.returns
returns c = c.eq.ensures ∙ key-eqb c.args.a c.args.b (omega arith) (omega arith)
