-- `fits::chunk_fits` meets its contract: what it read of the index is what the item there says. Assumes nothing.
use native.Mathlib.Omega.{arith}
use borrow.Author.Rules.{rules}
use Rattle.found.proofs.Reading.{byte-here}
use Rattle.fits.specs.Fits.{chunk_fits}
use Rattle.fits.proofs.chunk_fits.Goals as goal

pub returns-then-rank_same : goal.returns-then-rank_same
unfolding chunk_fits
returns-then-rank_same c =
    let count = byte-here c.args.image.now c.in-Some.index c.in-Some.ensures.1 28 (omega arith) in
    search rules
