-- `found::number_at` meets its contract: the chunk index stands at its place. Assumes nothing.
use native.Mathlib.Omega.{arith}
use Rattle.found.proofs.Reading.{byte_at}
use Rattle.found.proofs.items.number_at.Goals as goal

pub returns : goal.returns
returns c =
    omega (arith, c.from.ensures, byte_at c.args.image.now c.args.place c.requires 3 (omega arith))
