use lib.ListN.{take}
use Rattle.slots.specs.Named.{Filled}
use Rattle.slots.proofs.fill.Given as goal

abbrev pub invariant-loop-item : goal.invariant-loop-item
invariant-loop-item l = Filled l.initial.slots l.slots l.image (take l.item-index l.places)
