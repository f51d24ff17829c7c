-- Bridge: what the scan sees of the sectors of an image, by value. Assumes nothing.
use Rattle.std.specs.Prelude.{List, ◌++◌, ℕ, ◌-◌, min, take, replicate}
use Rattle.std.proofs.Math.Nat.{min-le_right}
use Rattle.page.specs.declared.state.PageState.TheVariants.{Blank}
use Rattle.page.specs.declared.seen.Seen.{Seen}
use Rattle.page.specs.Record.{seen_of, free_seen}
use Rattle.records.specs.declared.scanned.Scanned.{Scanned}
use Rattle.records.specs.Records.{each_to}

-- what fills the places of an array that no sector has
abbrev pub blank_seen : Seen
blank_seen = free_seen Blank

-- what is seen of the first n sectors of an image. Since it has 16 at most, the count is n; `min` shows the type that none is greater.
abbrev pub scanned_of : List ℕ → ℕ → Scanned
scanned_of l n = record { seen = each_to seen_of l n ++ replicate (16 - n) blank_seen; count = min n 16; sixteen = min-le_right n 16 }

-- what was seen of the sectors, in sector order: the places past them may hold anything
abbrev pub listed : Scanned → List Seen
listed s = take s.count s.seen
