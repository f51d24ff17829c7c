use mathlib.Core.Path.{◌≡◌}
use Prim.Native.Nat.{◌+◌, ◌-◌, ◌*◌, ◌≤◌}
use lib.ListN.{length}
use Rattle.found.proofs.Backward.{Left, passed}
use Rattle.found.specs.Ranks.{rank_number}
use Rattle.found.specs.Places.{items_at}
use Rattle.versions.proofs.Counting.{Told}
use Rattle.versions.proofs.sound.is_sound.Given as goal

abbrev pub invariant-loop-place : goal.invariant-loop-place
invariant-loop-place l =
    let rest = l.place-iterator.iter.rest.now in record {
      left : Left l.places rest;
      few : l.chunks + length rest ≤ 2016;
      small : l.size ≤ 65536 * (2016 - length rest);
      long : length l.seen ≡ 128;
      told : Told (rank_number l.v) l.count (items_at l.image (passed l.places rest)) l.seen l.chunks l.size;
    }
