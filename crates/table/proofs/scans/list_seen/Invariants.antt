use Rattle.std.proofs.Common.{◌≡◌, ◌≤◌, length, List, ℕ}
use Rattle.page.specs.Record.{seen_of}
use Rattle.records.specs.Records.{each_to}
use Rattle.records.specs.Scanned.{listed as listed_seen}
use Rattle.table.specs.Table.{sectors_of, pages_to, frees_to, listed, freed, Holds}
use Rattle.table.proofs.scans.list_seen.Given as goal

abbrev pub invariant-loop-n : goal.invariant-loop-n
invariant-loop-n s =
    record {
      pages_fit : length (listed s.table) ≤ s.n;
      free_fit : length (freed s.table) ≤ s.n;
      lists : (l : List ℕ) → listed_seen s.scanned ≡ each_to seen_of l (sectors_of l) → Holds s.table (pages_to l s.n) (frees_to l s.n);
    }
