-- A turn of the loop that erases chunks: the item at place p, which is number i of the list ps, read on the image m, where it stands as in l, on which the
-- call began. Assumes nothing.
use mathlib.Core.Path.{◌≡◌}
use mathlib.Core.Bool.{true, false}
use mathlib.Core.List.{List, ◌++◌}
use Prim.Native.Nat.{ℕ, ◌+◌, ◌<◌}
use lib.ListN.{length, get_or, drop}
use Rattle.entry.specs.Fields.{span_of}
use Rattle.item.specs.Erase.{erasing}
use Rattle.lists.specs.Each.{Each}
use Rattle.lists.proofs.Each.{each_at}
use Rattle.found.specs.Found.{chunk_of}
use Rattle.found.specs.Places.{item_at, Placed, Alike}
use Rattle.found.proofs.Alike.{placed_alike, item_alike}
use Rattle.found.proofs.Erasing.{chunks_at, chunk_more, chunk-not}

module _ (l m ps : List ℕ) (i p : ℕ) (lie : Each (Placed l) ps) (like : Alike l m) (h : i < length ps) (at : p ≡ get_or ps i 0) where
  pub placed_here : Placed m p
  placed_here = rw at (placed_alike l m like _ (each_at (Placed l) ps 0 lie i h))

  same : item_at m p ≡ item_at l (get_or ps i 0)
  same = rw at (item_alike l m like _ (each_at (Placed l) ps 0 lie i h))

  pub chunk_here : (v k : ℕ) → chunk_of v (item_at m p).raw ≡ true → k ≡ span_of (item_at m p).raw
      → chunks_at v l (drop i ps) ≡ erasing (item_at m p).sector (item_at m p).entry k ++ chunks_at v l (drop (i + 1) ps)
  chunk_here v k e s = let f = rw same at e in rw (s, same) (chunk_more v l ps i h f)

  pub other_here : (v : ℕ) → chunk_of v (item_at m p).raw ≡ false → chunks_at v l (drop i ps) ≡ chunks_at v l (drop (i + 1) ps)
  other_here v e = chunk-not v l ps i h (rw same at e)
