-- `formatter::procedure::slots_at` meets its contract: clipped ends leave what `take` and `drop` leave.
-- Assumes nothing.
use Rattle.formatter.proofs.Procedures.{clipped}
use Rattle.formatter.proofs.procedure.slots_at.Goals as goal

pub returns : goal.returns
returns c = search clipped
