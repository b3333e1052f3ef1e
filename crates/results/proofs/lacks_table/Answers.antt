use Rattle.results.proofs.Laws.{needs_none, needs_table}
use Rattle.results.proofs.lacks_table.Goals as goal

pub returns-then-tag-ge-FIRST_OPERATOR : goal.returns-then-tag-ge-FIRST_OPERATOR
returns-then-tag-ge-FIRST_OPERATOR c = search needs_none

pub returns : goal.returns
returns c = search needs_table
