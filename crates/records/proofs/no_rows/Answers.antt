-- `records::no_rows` meets its contract. Assumes nothing.
use Rattle.records.proofs.no_rows.Goals as goal

pub returns : goal.returns
returns c = rw c.blank_record-rows.ensures
