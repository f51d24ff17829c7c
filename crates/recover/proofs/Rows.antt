-- Of sixteen rows, each that counts is what is read of the sector of its number, whatever is read. Assumes nothing.
use mathlib.Core.Path.{◌≡◌, ◌∙◌}
use mathlib.Core.List.{List}
use Prim.Native.Nat.{ℕ, ◌<◌}
use native.Mathlib.Omega.{arith}
use lib.ListN.{get_or, get_or-append}
use Rattle.flash.specs.Step.{sector}
use Rattle.records.specs.Records.{each_to}
use Rattle.records.proofs.Reading.{length-each, each_at, rows}

pub row_at : {X : Type 0} (f : List ℕ → X) (l : List ℕ) (blank : X) (n u : ℕ) (d : X) → u < n → get_or (rows f l blank n n) u d ≡ f (sector u l)
row_at f l blank n u d h = get_or-append (each_to f l n) _ d u (omega (arith, length-each f l n)) ∙ each_at f l n u d h
