-- `crc::table` meets its contract: the constant is the table. Assumes nothing.
use Rattle.crc.proofs.Places.{table_right}
use Rattle.crc.proofs.table.Goals as goal

pub returns : goal.returns
returns c = table_right
