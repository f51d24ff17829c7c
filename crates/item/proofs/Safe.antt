-- Each operation touches one sector, so wherever it is cut the others are as they were. Assumes nothing.
use mathlib.Core.Path.{◌≡◌}
use mathlib.Core.Logic.{◌⊎◌}
use mathlib.Core.List.{List}
use Prim.Native.Nat.{ℕ, ◌+◌, ◌*◌, ◌≤◌}
use native.Mathlib.Omega.{arith}
use lib.ListN.{take}
use Rattle.word.specs.Number.{part}
use Rattle.entry.specs.Fields.{span_of}
use Rattle.flash.specs.Step.{run}
use Rattle.flash.proofs.Every.{every_append, every_take}
use Rattle.flash.proofs.Frame.{In, AllIn, part-kept}
use Rattle.flash.proofs.Lent.{shift_in}
use Rattle.flash.proofs.Words.{words_in}
use Rattle.item.specs.Initialise.{initialising}
use Rattle.item.specs.Copy.{copying}
use Rattle.item.specs.Erase.{erasing}
use Rattle.item.proofs.Clearing.{clearing_in}
use Rattle.item.proofs.Local.{copying-shift, copying_fit, unmarking_fit, erasing-shift}

pub initialising_in : (s : ℕ) (h l : List ℕ) → AllIn (s * 4096) (s * 4096 + 4096) (initialising s h l)
unfolding initialising
initialising_in s h l =
    let a = s * 4096 in
    let within : (k n : ℕ) → k + n ≤ 8 → _ = λ k n g. words_in a h a (a + 4096) k n (omega arith) (omega arith) in
    every_append (In a (a + 4096)) _ _ (clearing_in s l) (every_append (In a (a + 4096)) _ _ (within 1 7 (omega arith)) (within 0 1 (omega arith)))

pub copying_in : (base j : ℕ) (r : List ℕ) → j + span_of r ≤ 126 → AllIn base (base + 4096) (copying base j r)
copying_in base j r h = rw (copying-shift base j r) (shift_in base 4096 (copying 0 j r) (copying_fit j r h))

pub erasing_in : (s i n : ℕ) → i + n ≤ 126 → AllIn (s * 4096) (s * 4096 + 4096) (erasing s i n)
erasing_in s i n h = rw (erasing-shift s i n) (shift_in (s * 4096) 4096 _ (unmarking_fit i n h))

-- wherever a copy is cut, a part outside the target is as it was: the source above all
pub copy_cut : (base j : ℕ) (r : List ℕ) → j + span_of r ≤ 126 → (c p size : ℕ) (l : List ℕ) → (p + size ≤ base) ⊎ (base + 4096 ≤ p)
    → part (run (take c (copying base j r)) l) p size ≡ part l p size
copy_cut base j r h c p size l o =
    part-kept base (base + 4096) p size _ l (every_take (In base (base + 4096)) c _ (copying_in base j r h)) o
