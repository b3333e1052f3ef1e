-- `formatter::procedure::write_begun` meets its contract: by the token's kind.
-- Assumes nothing.
use Rattle.formatter.proofs.Procedures.{begins_nothing, begins_procedure}
use Rattle.formatter.proofs.procedure.write_begun.Goals as goal

pub returns-then-kind_of-ne-DEF : goal.returns-then-kind_of-ne-DEF
returns-then-kind_of-ne-DEF c = search begins_nothing

pub returns : goal.returns
returns c = search begins_procedure
