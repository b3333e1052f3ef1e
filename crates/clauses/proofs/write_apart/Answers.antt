-- `clauses::write_apart` meets its contract: with a space, or without.
-- Assumes nothing.
use Rattle.clauses.proofs.Laws.{apart_spaced, apart_closed}
use Rattle.clauses.proofs.write_apart.Goals as goal

pub returns-then-begins_word : goal.returns-then-begins_word
returns-then-begins_word c = search apart_spaced

pub returns : goal.returns
returns c = search apart_closed
