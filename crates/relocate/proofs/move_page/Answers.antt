-- `relocate::move_page` meets its contract: three lists in sequence, and the first leaves the source, so that its items are those at entry.
-- Assumes nothing.
use mathlib.Core.Path.{refl}
use mathlib.Core.List.{[], ◌∷◌, ◌++◌}
use Prim.Native.Nat.{◌*◌}
use Rattle.page.specs.Walk.{walk}
use Rattle.flash.specs.Step.{sector, erase}
use Rattle.flash.specs.Did.{Goes}
use Rattle.flash.proofs.Laws.{goes_start, goes_on, goes_out, goes_last}
use Rattle.flash.proofs.Frame.{did-sector}
use Rattle.item.proofs.Safe.{initialising_in}
use Rattle.relocate.specs.Move.{copies, moving}
use Rattle.relocate.proofs.move_page.Goals as goal
use Rattle.relocate.proofs.move_page.Goals.{In_ok-started}

pub returns-in_err-started : goal.returns-in_err-started
unfolding moving
returns-in_err-started c =
    goes_out _ (goes_start _ _ _) refl (rw c.header_of-h.ensures at c.initialise.ensures) c.in_err-started.was c.from_residual.ensures.0

-- what is left once the target is initialised: the source's items are as they were
started : (c : In_ok-started) →
    let a = c.args in
    let m = c.initialise.new.image in
    Goes (moving a.s a.target a.q (walk (sector a.s a.image.now) 126 0) a.image.now) a.allowed a.image.now
    (copies (a.target * 4096) 0 (walk (sector a.s m) 126 0) ++ (erase a.s ∷ [])) c.in_ok-started.started m
unfolding moving
started c =
    let a = c.args in
    let made = rw c.header_of-h.ensures at c.initialise.ensures in
    let kept = did-sector a.s a.target c.requires.2 (initialising_in a.target _ _) made in
    rw kept (goes_on (goes_start _ _ _) refl made c.in_ok-started.was)

pub returns-in_err-copied : goal.returns-in_err-copied
returns-in_err-copied c =
    goes_out _ (started (goal.at.returns-in_err-copied c).In_ok-started) refl c.copy_items.ensures c.in_err-copied.was c.from_residual-in_err-copied.ensures.0

pub returns : goal.returns
returns c =
    goes_last (goes_on (started (goal.at.returns c).In_ok-started) refl c.copy_items.ensures c.in_ok-copied.was) c.erase_sector.ensures
