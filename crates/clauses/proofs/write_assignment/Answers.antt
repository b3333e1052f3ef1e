-- `clauses::write_assignment` meets its contract: one part after the other.
-- Assumes nothing.
use Rattle.clauses.proofs.Laws.{assignment_written}
use Rattle.clauses.proofs.write_assignment.Goals as goal

pub returns : goal.returns
returns c = search assignment_written
