-- `picture::line::write_line` meets its contract: the numbers are those of the turned figure.
-- Assumes nothing.
use Rattle.picture.proofs.Writers.{wrote_turned}
use Rattle.picture.proofs.line.write_line.Goals as goal

pub returns : goal.returns
returns c = search wrote_turned
