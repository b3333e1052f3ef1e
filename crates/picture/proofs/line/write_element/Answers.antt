-- `picture::line::write_element` meets its contract: one part after the other.
-- Assumes nothing.
use Rattle.picture.proofs.Writers.{wrote_element}
use Rattle.picture.proofs.line.write_element.Goals as goal

pub returns : goal.returns
returns c = search wrote_element
