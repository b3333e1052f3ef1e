-- `picture::line::write_text` meets its contract: one part after the other.
-- Assumes nothing.
use Rattle.picture.proofs.Writers.{wrote_text}
use Rattle.picture.proofs.line.write_text.Goals as goal

pub returns : goal.returns
returns c = search wrote_text
