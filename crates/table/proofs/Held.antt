-- How long the lists are that a table holds. Assumes nothing.
use Prim.Native.Nat.{◌≤◌}
use native.Mathlib.Omega.{arith}
use lib.ListN.{length, length-take}
use Rattle.table.specs.declared.Table.{Table}
use Rattle.table.specs.Table.{listed}

pub few_listed : (t : Table) → length (listed t) ≤ 16
few_listed t = omega (arith, length-take t.count t.pages, t.sixteen)
