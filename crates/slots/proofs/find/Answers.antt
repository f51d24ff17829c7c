-- `slots::find` meets its contract: what stands where the search ends is what the table leads to. Assumes nothing.
use mathlib.Core.Path.{sym, ◌∙◌}
use lib.ListN.{get_or}
use Rattle.found.specs.Places.{Placed}
use Rattle.found.specs.Ranks.{rank_number}
use Rattle.slots.proofs.Looking.{found_place, told_some}
use Rattle.slots.proofs.find.Goals as goal

pub returns : goal.returns
returns c =
    let a = c.args in
    let told = told_some a.slots.now a.image.now (rank_number a.name) c.in_ok-i.i (sym c.stop_of.ensures.0 ∙ c.in_ok-i.was) in
    rw (c.then_some.ensures, c.from-place.ensures) (found_place (Placed a.image.now) _ (get_or a.slots.now c.in_ok-i.i 0) told (c.requires.each c.in_ok-i.i))
