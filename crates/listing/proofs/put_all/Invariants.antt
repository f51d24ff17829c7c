use lib.ListN.{take}
use Rattle.text.specs.Grown.{Grown}
use Rattle.listing.specs.Listing.{lines}
use Rattle.listing.proofs.put_all.Given as goal

abbrev pub invariant-loop-n : goal.invariant-loop-n
invariant-loop-n l = Grown l.initial.text (lines 0 (take l.n l.rows)) l.text
