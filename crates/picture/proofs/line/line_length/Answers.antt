-- `picture::line::line_length` meets its contract: the numbers are those of the turned figure.
-- Assumes nothing.
use Rattle.picture.proofs.Writers.{counted_turned}
use Rattle.picture.proofs.line.line_length.Goals as goal

pub returns : goal.returns
returns c = search counted_turned
