-- `spellings::leaf::write_name` meets its contract: the token's word says where its spelling stands.
-- Assumes nothing.
use Rattle.spellings.proofs.Leaves.{name_written}
use Rattle.spellings.proofs.leaf.write_name.Goals as goal

pub returns : goal.returns
returns c = search name_written
