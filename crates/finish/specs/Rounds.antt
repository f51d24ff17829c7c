-- Bridge: what a round's function answers, and what the functions of a round need. Assumes nothing.
use Rattle.std.specs.Prelude.{◌≡◌, List, ℕ, Ok}
use Rattle.flash.specs.Did.{Did, Ran}
use Rattle.table.specs.declared.Table.{Table}
use Rattle.table.specs.Table.{Holds}
use Rattle.finish.specs.Finish.{Round}

-- the steps of the round w, of which n are allowed, were made on the image l, which left m; where these were all, the table t holds the lists that it leaves
pub record Makes (w : Round) (n : ℕ) (l m : List ℕ) (r : Ran) (t : Table) : Type 0 where
  pub did : Did w.steps n l m r
  pub table : (k : ℕ) → r ≡ Ok k → Holds t w.list w.free
