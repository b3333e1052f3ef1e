-- `imgcheck::report_read` meets its contract: what was read is enough, and a report fits the out slice.
-- Assumes nothing.
use native.Mathlib.Omega.{arith}
use lib.ListN.{length-take}
use Rattle.imgcheck.proofs.Enough.{read_prints}
use Rattle.imgcheck.proofs.report_read.Goals as goal

pub slice_bounds-checked_report-end : goal.slice_bounds-checked_report-end
slice_bounds-checked_report-end c = simp length-take (omega arith)

pub returns : goal.returns
returns c = read_prints _ _ _ _ _ c.requires.0 c.requires.2
    c.checked_report.ensures
