-- `picture::frame::head_length` meets its contract: by the head's parts.
-- Assumes nothing.
use Rattle.writing.proofs.Signs.{wide_seen}
use Rattle.picture.proofs.Writers.{counted_head}
use Rattle.picture.proofs.frame.head_length.Goals as goal

pub overflow_cast-width : goal.overflow_cast-width
overflow_cast-width c = search wide_seen

pub overflow_cast-height : goal.overflow_cast-height
overflow_cast-height c = search wide_seen

pub returns : goal.returns
returns c = search counted_head
