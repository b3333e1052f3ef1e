-- `clauses::ends_word` meets its contract: by its last operand.
-- Assumes nothing.
use Rattle.clauses.proofs.Laws.{word_own, word_second}
use Rattle.clauses.proofs.ends_word.Goals as goal

pub returns-then-tag_of-lt-FIRST_OPERATOR : goal.returns-then-tag_of-lt-FIRST_OPERATOR
returns-then-tag_of-lt-FIRST_OPERATOR c = search word_own

pub returns : goal.returns
returns c = search word_second
