-- `clauses::write_iterator` meets its contract: with a space before the last word, or without.
-- Assumes nothing.
use Rattle.clauses.proofs.Laws.{iterator_spaced, iterator_closed}
use Rattle.clauses.proofs.write_iterator.Goals as goal

pub returns-then-ends_word : goal.returns-then-ends_word
returns-then-ends_word c =
    search iterator_spaced

pub returns : goal.returns
returns c =
    search iterator_closed
