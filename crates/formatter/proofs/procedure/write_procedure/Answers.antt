-- `formatter::procedure::write_procedure` meets its contract: one part after the other.
-- Assumes nothing.
use native.Mathlib.Omega.{arith}
use Rattle.formatter.proofs.Procedures.{procedure_written}
use Rattle.formatter.proofs.procedure.write_procedure.Goals as goal

pub returns : goal.returns
returns c =
    procedure_written _ _ _ _ _ _ _ _ _
    (omega arith)
    c.table_place.ensures
    c.word_at-d.ensures
    c.start_of.ensures.0
    c.parameters_of.ensures.0
    c.body_of-n.ensures.0
    c.write_head-inside.ensures
    c.write_statements-end.ensures
    c.write_bytes_at.ensures
