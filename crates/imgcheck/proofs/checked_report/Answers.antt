-- `imgcheck::checked_report` meets its contract: what is said of the answer.
-- Assumes nothing.
use Rattle.imgcheck.proofs.Reporting.{reported}
use Rattle.imgcheck.proofs.checked_report.Goals as goal

pub returns : goal.returns
returns c = reported _ _ c.answer-r.ensures c.write_report.ensures
