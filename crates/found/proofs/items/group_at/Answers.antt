-- `found::group_at` meets its contract: the namespace in front, then the key. Assumes nothing.
use native.Mathlib.Omega.{arith}
use Rattle.found.specs.Found.{group_of}
use Rattle.found.proofs.Reading.{key_here}
use Rattle.found.proofs.items.group_at.Goals as goal

pub returns : goal.returns
unfolding group_of
returns c =
    let key = key_here c.args.image.now c.args.place c.requires in
    (rw (c.key_at.ensures, ← key, c.from.ensures, c.namespace_at.ensures), omega arith)
