-- `report::whole::write_line_at` meets its contract: nothing for 73, else the excerpt.
-- Assumes nothing.
use Rattle.report.proofs.Reporting.{line_none, line_some}
use Rattle.report.proofs.whole.write_line_at.Goals as goal

pub returns-then-number-eq73 : goal.returns-then-number-eq73
returns-then-number-eq73 c = line_none _ _ c.if-number-eq73.true c.ranges.at.fits

pub returns : goal.returns
returns c = line_some _ _ c.if-number-eq73.false c.write_excerpt_at.ensures
