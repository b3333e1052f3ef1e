-- `report::sentence::write_malformed_at` meets its contract: by where the program ends.
-- Assumes nothing.
use Rattle.report.proofs.Wording.{said_end, said_here}
use Rattle.report.proofs.sentence.write_malformed_at.Goals as goal

pub returns-then-ended : goal.returns-then-ended
returns-then-ended c = said_end _ c.if-ended.true c.write_bytes_at.ensures

pub returns : goal.returns
returns c = said_here _ c.if-ended.false c.write_bytes_at-2.ensures
