-- `found::start_at` meets its contract: a chunk is judged by its chunk index, an index by its chunk start. Assumes nothing.
use mathlib.Core.Path.{sym, ap, ◌∙◌}
use native.Mathlib.Omega.{arith}
use Rattle.entry.specs.Fields.{start_of}
use Rattle.found.specs.Found.{start_in}
use Rattle.found.proofs.Reading.{byte_at}
use Rattle.found.proofs.items.start_at.Goals as goal
use Rattle.found.proofs.items.start_at.Goals.{then-is_chunk, else-is_chunk}

pub returns : goal.returns
unfolding start_in
returns c =
    let byte = byte_at c.args.image.now c.args.place c.requires in
    let kind = sym c.is_chunk.ensures in
    c.start.ensures ∙ elim c.if-is_chunk.branch [
      | then-is_chunk w ↦ rw (kind ∙ w.if-is_chunk.true, w.at-is) (ap start_of (sym (byte 3 (omega arith))))
      | else-is_chunk w ↦ rw (kind ∙ w.if-is_chunk.false, w.at-is) (ap start_of (sym (byte 29 (omega arith))))
    ]
