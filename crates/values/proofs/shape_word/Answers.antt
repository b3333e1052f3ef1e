use Rattle.values.proofs.Laws.{shape_is}
use Rattle.values.proofs.shape_word.Goals as goal

pub returns : goal.returns
returns c = shape_is _
