-- `entry::key_less` meets its contract: keys are compared as their numbers are. Assumes nothing.
use native.Mathlib.Omega.{arith}
use Rattle.std.proofs.lemmas.Bool.Decides.{nat_tests}
use Rattle.entry.proofs.Order.{key-ltb, key-leb}
use Rattle.entry.proofs.fields.key_less.Goals as goal

pub returns : goal.returns
returns c =
    let x = c.args in
    let less = key-ltb x.a x.b (omega arith) (omega arith) in
    let most = key-leb x.a x.b (omega arith) (omega arith) in
    let least = key-leb x.b x.a (omega arith) (omega arith) in
    grind (arith, nat_tests, less, most, least)
