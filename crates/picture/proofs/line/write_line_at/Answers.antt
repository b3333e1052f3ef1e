-- `picture::line::write_line_at` meets its contract: what is laid over the rest is laid from the place on.
-- Assumes nothing.
use Rattle.writing.proofs.Laying.{lent, past}
use Rattle.picture.proofs.line.write_line_at.Goals as goal

pub returns-then-out-at : goal.returns-then-out-at
returns-then-out-at c = search past

pub returns : goal.returns
returns c = search lent
