-- `item::header_of` meets its contract: the bytes are stored as the definition lists them. Assumes nothing.
use Rattle.item.specs.Initialise.{header, body, bytes4}
use Rattle.item.proofs.initial.header_of.Goals as goal

pub returns : goal.returns
unfolding header body bytes4
returns c =
    rw (c.copy_from_slice-2.ensures.after, c.to_le_bytes-2.ensures, c.crc-c.ensures, c.copy_from_slice.ensures.after, c.to_le_bytes.ensures)
