-- `entry::entry_crc` meets its contract: the register goes through the two pieces one after the other. Assumes nothing.
use native.Mathlib.Omega.{arith}
use Rattle.entry.proofs.Pieces.{two_ranges}
use Rattle.entry.proofs.fields.entry_crc.Goals as goal

pub returns : goal.returns
returns c =
    let a = c.args in
    rw (c.finish.ensures, c.run.ensures, c.run-r.ensures) (two_ranges a.s.now a.at c.requires (omega arith) (omega arith) (omega arith) (omega arith))
