-- `judging::drop_version` meets its contract: the index, then the chunks, which stand where they stood. Assumes nothing.
use mathlib.Core.Path.{refl}
use Rattle.flash.proofs.Laws.{goes_start, goes_on, goes_out, goes_last}
use Rattle.found.proofs.Alike.{alike_trans, each-alike, items_alike}
use Rattle.versions.specs.Versions.{drop_version}
use Rattle.judging.proofs.chunks.drop_version.Goals as goal

pub returns-in_err-left : goal.returns-in_err-left
unfolding drop_version
returns-in_err-left c =
    let e = c.erase_at.ensures in
    (goes_out _ (goes_start _ _ _) refl e.0 c.in_err-left.was c.from_residual.ensures.0, e.1)

pub erase_chunks-requires : goal.erase_chunks-requires
erase_chunks-requires c = each-alike _ _ c.erase_at.ensures.1 _ c.requires.0

pub returns : goal.returns
unfolding drop_version
returns c =
    let e = c.erase_at.ensures in
    let f = c.erase_chunks.ensures in
    let items = items_alike _ _ e.1 c.args.places.now c.requires.0 in
    (goes_last (goes_on (goes_start _ _ _) refl e.0 c.in_ok-left.was) (rw items at f.0), alike_trans e.1 f.1)
