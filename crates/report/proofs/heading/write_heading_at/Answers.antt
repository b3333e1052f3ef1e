-- `report::heading::write_heading_at` meets its contract: by its four numbers.
-- Assumes nothing.
use native.Mathlib.Omega.{arith}
use Rattle.report.proofs.Reporting.{heading_written}
use Rattle.report.proofs.heading.write_heading_at.Goals as goal

pub returns : goal.returns
returns c = heading_written _ _ c.args.p (omega
    (arith)) c.write_number_at-a.ensures c.write_number_at-b.ensures c.write_number_at-c.ensures c.write_number_at-d.ensures c.write_bytes_at.ensures
