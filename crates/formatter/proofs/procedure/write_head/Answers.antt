-- `formatter::procedure::write_head` meets its contract: one part after the other.
-- Assumes nothing.
use native.Mathlib.Omega.{arith}
use Rattle.formatter.proofs.Procedures.{head_written}
use Rattle.formatter.proofs.procedure.write_head.Goals as goal

pub returns : goal.returns
returns c =
    head_written _ _ _ _ _ _ _ _
    (omega arith)
    c.start_of.ensures.0
    c.parameters_of.ensures.0
    c.slots_at-slots.ensures
    c.write_bytes_at-name.ensures
    c.write_name-open.ensures
    c.write_bytes_at-inside.ensures
    c.write_names-end.ensures
    c.write_bytes_at.ensures
