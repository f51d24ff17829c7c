-- `recover::recover` meets its contract: the rows of `recover_image`, which fit, are stored. Assumes nothing.
use Rattle.recover.proofs.Fixed.{rows_fit}
use Rattle.recover.proofs.Promised.{stored}
use Rattle.recover.proofs.recover.Goals as goal

pub fill-requires : goal.fill-requires
fill-requires c = rows_fit c.recover_image-made.ensures

pub returns : goal.returns
returns c = stored c.recover_image-made.ensures c.fill.ensures
