-- `erasing::erase_at` meets its contract: the item's entries are erased, which changes entry states alone. Assumes nothing.
use Prim.Native.Nat.{◌-◌, ◌/◌, ◌%◌}
use native.Mathlib.Omega.{arith}
use Rattle.found.specs.Places.{item_at}
use Rattle.found.proofs.Alike.{erasing-alike}
use Rattle.erasing.proofs.erase_at.Goals as goal

pub returns : goal.returns
unfolding item_at
returns c =
    (c.erase_item.ensures, erasing-alike (c.args.place / 128) (c.args.place % 128 - 2) c.args.n (omega (arith, c.requires.0.entries, c.requires.1)) c.erase_item.ensures)
