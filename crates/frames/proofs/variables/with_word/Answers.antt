use Rattle.frames.proofs.VariableLaws.{with_word_lem}
use Rattle.frames.proofs.variables.with_word.Goals as goal

pub returns : goal.returns
returns c = search with_word_lem
