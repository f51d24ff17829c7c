use mathlib.Core.Path.{◌≡◌}
use mathlib.Core.Bool.{true}
use Prim.Native.Nat.{◌*◌, ◌≤◌}
use Rattle.entry.specs.Fields.{chunk_size}
use Rattle.lists.specs.Lists.{all_to, sum_to}
use Rattle.found.specs.Ranks.{rank_number}
use Rattle.slots.specs.Names.{chunk_name}
use Rattle.slots.specs.Named.{told_raw}
use Rattle.fits.specs.Fits.{has_chunk}
use Rattle.fits.proofs.index_fits.Given as goal

abbrev pub invariant-loop-n : goal.invariant-loop-n
invariant-loop-n l =
    (l.size ≤ 65536 * l.n) × (all_to (has_chunk l.slots l.image (rank_number l.v)) l.n ≡ true)
    × (sum_to (λ j. chunk_size (told_raw l.slots l.image (chunk_name (rank_number l.v) j))) l.n ≡ l.size)
