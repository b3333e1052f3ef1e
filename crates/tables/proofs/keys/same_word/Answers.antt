use Rattle.tables.proofs.KeyLaws.{same_words}
use Rattle.tables.proofs.keys.same_word.Goals as goal

pub returns : goal.returns
returns c = search same_words
