-- `picture::frame::tail_length` meets its contract: the length is computed.
-- Assumes nothing.
use mathlib.Core.Path.{sym}
use Rattle.picture.proofs.Frames.{length_tail}
use Rattle.picture.proofs.frame.tail_length.Goals as goal

pub returns : goal.returns
returns c = sym length_tail
