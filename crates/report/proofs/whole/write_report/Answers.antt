-- `report::whole::write_report` meets its contract: by the cases of the answer.
-- Assumes nothing.
use Rattle.report.proofs.Reporting.{said_formed, said_failed}
use Rattle.report.proofs.whole.write_report.Goals as goal

pub returns-in-Picture : goal.returns-in-Picture
returns-in-Picture c = said_formed _ _ _ _ c.in-Picture.is c.write_bytes.ensures

pub returns-in-Number : goal.returns-in-Number
returns-in-Number c = said_failed _ _ _ _ _ _ c.in-Number.is c.write_failure.ensures
