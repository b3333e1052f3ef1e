-- `phrases::begins_word` meets its contract: the byte that is written is the text's first.
-- Assumes nothing.
use Rattle.phrases.proofs.Expressions.{word_begins}
use Rattle.phrases.proofs.begins_word.Goals as goal

pub returns : goal.returns
returns c = search word_begins
