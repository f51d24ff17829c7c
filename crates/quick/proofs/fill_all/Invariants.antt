use Rattle.std.proofs.Common.{◌≡◌, length, map, drop}
use Rattle.records.specs.Notes.{Noted}
use Rattle.table.specs.Table.{listed}
use Rattle.found.specs.Places.{place_of}
use Rattle.found.specs.Found.{found}
use Rattle.slots.specs.Slots.{Leads}
use Rattle.quick.proofs.Pages.{SoFar}
use Rattle.quick.proofs.fill_all.Given as goal

abbrev pub invariant-loop-p : goal.invariant-loop-p
invariant-loop-p l = (length l.places ≡ 126) × Leads l.slots l.image × SoFar l.slots l.image (drop l.p-index (listed l.table)) (map place_of (found (listed l.table) l.image)) × Noted l.notes l.image
