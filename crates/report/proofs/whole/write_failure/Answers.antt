-- `report::whole::write_failure` meets its contract: by its three parts.
-- Assumes nothing.
use mathlib.Core.Path.{refl}
use native.Mathlib.Omega.{arith}
use Rattle.report.proofs.Reporting.{column_some, around, failed}
use Rattle.report.proofs.whole.write_failure.Goals as goal

pub overflow_sub-column : goal.overflow_sub-column
overflow_sub-column c = column_some _ c.args.number _ _ _
    c.min-spot.ensures c.locate-p.ensures

pub write_line_at-b-requires : goal.write_line_at-b-requires
write_line_at-b-requires c = around _ c.args.number _ _ _
    c.min-spot.ensures c.locate-p.ensures

pub returns : goal.returns
returns c = failed _ c.args.number _ _ _
    c.min-spot.ensures
    c.locate-p.ensures _
    (omega arith) refl
    c.write_heading_at-a.ensures c.write_line_at-b.ensures
    c.write_sentence_at.ensures
