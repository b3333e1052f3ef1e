-- `spellings::leaf::write_number` meets its contract: the number is handed on as its bits.
-- Assumes nothing.
use Rattle.spellings.proofs.Leaves.{number_written}
use Rattle.writing.proofs.Signs.{wide_seen}
use Rattle.spellings.proofs.leaf.write_number.Goals as goal

pub overflow_cast-z : goal.overflow_cast-z
overflow_cast-z c = search wide_seen

pub returns : goal.returns
returns c = search number_written
