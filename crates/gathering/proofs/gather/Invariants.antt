use Rattle.std.proofs.Common.{◌≡◌, ◌*◌, ◌++◌, ◌≤◌, map, take, drop}
use Rattle.records.specs.Notes.{Noted}
use Rattle.table.specs.Table.{listed}
use Rattle.found.specs.Places.{place_of}
use Rattle.found.specs.Found.{found}
use Rattle.gathering.proofs.gather.Given as goal

abbrev pub invariant-loop-p : goal.invariant-loop-p
invariant-loop-p l = (l.k ≤ 126 * l.p-index) × (take l.k l.out ++ map place_of (found (drop l.p-index (listed l.table)) l.image) ≡ map place_of (found (listed l.table) l.image)) × Noted l.notes l.image
