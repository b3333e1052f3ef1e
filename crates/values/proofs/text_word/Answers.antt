use Rattle.values.proofs.Laws.{text_is}
use Rattle.values.proofs.text_word.Goals as goal

pub returns : goal.returns
returns c = text_is _
