-- `clauses::operand_ends` meets its contract: by its root, or by the second part of an entry.
-- Assumes nothing.
use Rattle.clauses.proofs.Laws.{operand_own, operand_second}
use Rattle.clauses.proofs.operand_ends.Goals as goal

pub returns-then-tag-ne-ENTRY : goal.returns-then-tag-ne-ENTRY
returns-then-tag-ne-ENTRY c = search operand_own

pub returns : goal.returns
returns c = search operand_second
