use lib.ListN.{drop}
use Rattle.flash.specs.Did.{Goes}
use Rattle.found.specs.Ranks.{rank_number}
use Rattle.found.specs.Places.{Alike}
use Rattle.found.proofs.Erasing.{chunks_at}
use Rattle.erasing.proofs.erase_chunks.Given as goal

abbrev pub invariant-loop-p : goal.invariant-loop-p
invariant-loop-p l = Alike l.initial.image l.image × Goes (chunks_at (rank_number l.v) l.initial.image l.places) l.allowed l.initial.image (chunks_at (rank_number l.v) l.initial.image (drop l.p-index l.places)) l.left l.image
