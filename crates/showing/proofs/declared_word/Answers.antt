-- `showing::declared_word` meets its contract: the frame, and then its variable.
-- Assumes nothing.
use Rattle.showing.proofs.Words.{word_is}
use Rattle.showing.proofs.declared_word.Goals as goal

pub returns : goal.returns
returns c = search word_is
