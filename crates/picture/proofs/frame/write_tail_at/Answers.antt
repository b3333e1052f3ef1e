-- `picture::frame::write_tail_at` meets its contract: the two lines are one byte string.
-- Assumes nothing.
use Rattle.picture.specs.Parts.{tail}
use Rattle.picture.proofs.frame.write_tail_at.Goals as goal

pub returns : goal.returns
unfolding tail
returns c = c.write_bytes_at.ensures
