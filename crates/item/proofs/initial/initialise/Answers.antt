-- `item::initialise` meets its contract: three lists in sequence. Assumes nothing.
use mathlib.Core.Path.{refl}
use Rattle.flash.proofs.Laws.{goes_start, goes_on, goes_out, goes_last}
use Rattle.item.specs.Initialise.{initialising}
use Rattle.item.proofs.initial.initialise.Goals as goal

pub returns-in_err-cleared : goal.returns-in_err-cleared
unfolding initialising
returns-in_err-cleared c = goes_out _ (goes_start _ _ _) refl c.clear_sector.ensures c.in_err-cleared.was c.from_residual.ensures.0

pub returns-in_err-rest : goal.returns-in_err-rest
unfolding initialising
returns-in_err-rest c =
    goes_out _ (goes_on (goes_start _ _ _) refl c.clear_sector.ensures c.in_ok-cleared.was) refl c.program_words.ensures c.in_err-rest.was c.from_residual-in_err-rest.ensures.0

pub returns : goal.returns
unfolding initialising
returns c =
    goes_last
    (goes_on (goes_on (goes_start _ _ _) refl c.clear_sector.ensures c.in_ok-cleared.was) refl c.program_words.ensures c.in_ok-rest.was)
    c.program_words-2.ensures
