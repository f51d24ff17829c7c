use mathlib.Core.Path.{◌≡◌}
use Prim.Native.Nat.{◌-◌, ◌*◌, ◌≤◌}
use lib.ListN.{length}
use Rattle.page.specs.Walk.{walk}
use Rattle.flash.specs.Step.{sector}
use Rattle.flash.specs.Did.{Goes}
use Rattle.relocate.specs.Move.{copies}
use Rattle.relocate.proofs.copy_items.Given as goal

abbrev pub invariant-loop-i : goal.invariant-loop-i
invariant-loop-i l =
    (l.i ≤ 126) × (l.j ≤ l.i) × (length l.image ≡ length l.initial.image) × (sector l.s l.image ≡ sector l.s l.initial.image)
    × Goes (copies (l.target * 4096) 0 (walk (sector l.s l.initial.image) 126 0)) l.allowed l.initial.image (copies (l.target * 4096) l.j (walk (sector l.s l.initial.image) 126 l.i)) l.left l.image

abbrev pub decreases-loop-i : goal.decreases-loop-i
decreases-loop-i l = 126 - l.i
