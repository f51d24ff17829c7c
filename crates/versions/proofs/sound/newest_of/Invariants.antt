use mathlib.Core.Path.{◌≡◌}
use Rattle.found.proofs.Backward.{Left, passed}
use Rattle.found.specs.Ranks.{rank_number}
use Rattle.found.specs.Places.{items_at}
use Rattle.versions.specs.Search.{newest_of, PlacedAt, newest_index}
use Rattle.versions.proofs.sound.newest_of.Given as goal

abbrev pub invariant-loop-place : goal.invariant-loop-place
invariant-loop-place l =
    let rest = l.place-iterator.iter.rest.now in record {
      left : Left l.places rest;
      newest : newest_of l.image l.best ≡ newest_index (rank_number l.v) (rank_number l.w) (items_at l.image (passed l.places rest));
      placed : PlacedAt l.image l.best;
    }
