-- `spellings::leaf::write_part` meets its contract: a part from a place on is what `take` and `drop` leave.
-- Assumes nothing.
use Rattle.spellings.proofs.Leaves.{part_written}
use Rattle.spellings.proofs.leaf.write_part.Goals as goal

pub returns : goal.returns
returns c = search part_written
