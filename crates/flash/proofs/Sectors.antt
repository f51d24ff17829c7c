-- A sector lent as a part of the image. Assumes nothing.
use mathlib.Core.Path.{◌≡◌}
use mathlib.Core.List.{List}
use Prim.Native.Nat.{ℕ, ◌+◌, ◌-◌, ◌*◌}
use native.Mathlib.Omega.{arith}
use Rattle.word.specs.Number.{part}
use Rattle.flash.specs.Step.{sector}

-- what a callee saw that was lent the sector
pub lent-sector : (s : ℕ) (l : List ℕ) → part l (s * 4096) (s * 4096 + 4096 - s * 4096) ≡ sector s l
unfolding sector
lent-sector s l =
    let n : s * 4096 + 4096 - s * 4096 ≡ 4096 = omega arith in
    rw n
