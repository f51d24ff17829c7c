-- What holds of whole sectors. Assumes nothing.
use mathlib.Core.Path.{◌≡◌}
use mathlib.Core.Bool.{true, ◌&&◌}
use mathlib.Core.List.{List}
use Prim.Native.Nat.{ℕ, ◌*◌, ◌%◌, ◌≤◌}
use native.Mathlib.Omega.{arith}
use borrow.Author.Tests.{eqb-true, leb-true}
use lib.Dec.{eqb, leb}
use lib.ListN.{length}
use Rattle.page.proofs.Tests.{both_first, both-second}
use Rattle.table.specs.Table.{sectors_of, whole_sectors}

pub whole_is : (l : List ℕ) → whole_sectors l ≡ true → (length l ≡ sectors_of l * 4096) × (sectors_of l ≤ 16)
unfolding whole_sectors
whole_is l e =
    let a = eqb-true (length l % 4096) 0 (both_first (eqb (length l % 4096) 0) (leb 2 (sectors_of l) && leb (sectors_of l) 16) e) in
    let b = both-second (eqb (length l % 4096) 0) (leb 2 (sectors_of l) && leb (sectors_of l) 16) e in
    let c = leb-true (sectors_of l) 16 (both-second (leb 2 (sectors_of l)) (leb (sectors_of l) 16) b) in
    (omega arith, c)
