-- `fits::all_fit` meets its contract: it answers no at the first item that does not fit. Assumes nothing.
use mathlib.Core.Path.{◌≡◌, sym}
use mathlib.Core.Bool.{false}
use lib.ListN.{length, get_or}
use borrow.Author.Tests.{ne_eqb}
use Rattle.lists.specs.Lists.{all_to}
use Rattle.lists.proofs.Member.{refuted, true≢false}
use Rattle.lists.proofs.Passing.{all_at}
use Rattle.fits.specs.Fits.{all_fit}
use Rattle.fits.proofs.all_fit.Goals as goal
use Rattle.fits.proofs.all_fit.Invariants.{slot_fits}

pub returns-then-not-part_fits : goal.returns-then-not-part_fits
unfolding all_fit
returns-then-not-part_fits c =
    let a = c.args in
    let i = c.loop-slot.slot-index in
    let test = slot_fits a.slots.now a.image.now in
    let size = length a.slots.now in
    let here : test i ≡ false = rw (ne_eqb (get_or a.slots.now i 0) 0 (rw c.from-place.ensures at c.if-place-ne0.true)) (rw c.from-place.ensures at (sym c.if-not-part_fits.ensures)) in
    sym (refuted (all_to test size) (λ q. true≢false (all_at test size q i c.loop-slot-test.true) here))
