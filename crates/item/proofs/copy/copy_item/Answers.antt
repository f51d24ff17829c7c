-- `item::copy_item` meets its contract: three lists in sequence, of which the first goes by the source's bytes and the others by its span.
-- Assumes nothing.
use mathlib.Core.Path.{refl}
use mathlib.Core.Logic.{inl, inr, ⊎_elim}
use mathlib.Core.List.{◌++◌}
use Prim.Native.Nat.{◌+◌, ◌*◌}
use native.Mathlib.Omega.{arith}
use Rattle.flash.specs.Did.{Goes}
use Rattle.flash.proofs.Laws.{goes_start, goes_on, goes_out, goes_last}
use Rattle.word.specs.Number.{part}
use Rattle.marking.specs.Marking.{marking}
use Rattle.item.specs.Copy.{full_mark, copying}
use Rattle.item.proofs.Turns.{copying_by}
use Rattle.item.proofs.copy.copy_item.Goals as goal
use Rattle.item.proofs.copy.copy_item.Goals.{In_ok-copied}

pub copy_words-requires : goal.copy_words-requires
copy_words-requires c = (omega arith, omega arith, omega arith, ⊎_elim (λ g. inl (omega arith)) (λ g. inr (omega arith)) c.requires.2)

pub returns-in_err-copied : goal.returns-in_err-copied
returns-in_err-copied c =
    let a = c.args in
    goes_out _ (goes_start _ _ _) (copying_by a.target a.j (a.source + 64 + a.i * 32) a.n a.image.now c.requires.5) c.copy_words.ensures c.in_err-copied.was c.from_residual.ensures.0

-- what is left once the words are copied
copied : (c : In_ok-copied) →
    let a = c.args in
    Goes (copying a.target a.j (part a.image.now (a.source + 64 + a.i * 32) (a.n * 32))) a.allowed a.image.now
    (marking a.target a.j a.n ++ full_mark a.target (a.j + a.n)) c.in_ok-copied.copied c.copy_words.new.image
copied c =
    let a = c.args in
    goes_on (goes_start _ _ _) (copying_by a.target a.j (a.source + 64 + a.i * 32) a.n a.image.now c.requires.5) c.copy_words.ensures c.in_ok-copied.was

pub returns-in_err-marked : goal.returns-in_err-marked
returns-in_err-marked c =
    goes_out _ (copied (goal.at.returns-in_err-marked c).In_ok-copied) refl c.mark_written.ensures c.in_err-marked.was c.from_residual-in_err-marked.ensures.0

pub returns : goal.returns
returns c =
    goes_last (goes_on (copied (goal.at.returns c).In_ok-copied) refl c.mark_written.ensures c.in_ok-marked.was) c.mark_if_used.ensures
