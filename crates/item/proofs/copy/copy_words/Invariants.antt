use mathlib.Core.Path.{◌≡◌}
use Prim.Native.Nat.{◌-◌, ◌*◌}
use Rattle.flash.specs.Did.{Goes}
use Rattle.word.specs.Number.{part}
use Rattle.flash.specs.Words.{words}
use Rattle.item.proofs.copy.copy_words.Given as goal

abbrev pub invariant-loop-k : goal.invariant-loop-k
invariant-loop-k l =
    (part l.image l.from (l.n * 4) ≡ part l.initial.image l.from (l.n * 4))
    × Goes (words l.to (part l.initial.image l.from (l.n * 4)) 0 l.n) l.allowed l.initial.image (words l.to (part l.initial.image l.from (l.n * 4)) l.k (l.n - l.k)) l.left l.image
