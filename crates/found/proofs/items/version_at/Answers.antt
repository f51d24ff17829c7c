-- `found::version_at` meets its contract: namespace and start in front, then the key. Assumes nothing.
use native.Mathlib.Omega.{arith}
use Rattle.found.specs.Found.{version_of}
use Rattle.found.proofs.Reading.{key_here}
use Rattle.found.proofs.items.version_at.Goals as goal

pub returns : goal.returns
unfolding version_of
returns c =
    let key = key_here c.args.image.now c.args.place c.requires in
    (rw (c.key_at.ensures, ← key, c.from-2.ensures, c.start_at.ensures, c.from.ensures, c.namespace_at.ensures), omega arith)
