-- `marking::state_step` meets its contract: the word that it programs is the definition's. Assumes nothing.
use mathlib.Core.Path.{◌≡◌}
use mathlib.Core.List.{[], ◌∷◌, List}
use Prim.Native.Nat.{ℕ, ◌+◌, ◌*◌, ◌/◌, ◌%◌, ◌≤◌}
use native.Mathlib.Omega.{arith}
use Rattle.std.specs.Int.{byte_at}
use Rattle.flash.specs.Step.{program}
use Rattle.flash.specs.Did.{Did, Ran}
use Rattle.marking.specs.Marking.{state_step}
use Rattle.marking.proofs.Pairs.{word_less, step_word}
use Rattle.marking.proofs.state_step.Goals as goal

-- whoever programs a word that is the definition's does its step
module _ (base d e : ℕ) (small : d ≤ 3) where
  word_did : {n : ℕ} {l m : List ℕ} {r : Ran} (w : ℕ) → Did (program (base + 32 + e / 16 * 4) (byte_at 0 w) (byte_at 1 w) (byte_at 2 w) (byte_at 3 w) ∷ []) n l m r → w ≡ word_less d (e % 16) → Did (state_step base d e ∷ []) n l m r
  word_did w h same = rw (← step_word base d e small, ← same) h

pub returns : goal.returns
returns c =
    let a = c.args in
    word_did a.base a.d a.e c.requires.1 _ (rw c.to_le_bytes.ensures at c.program_word.ensures) (omega arith)
