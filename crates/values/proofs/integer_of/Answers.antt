use Rattle.values.proofs.Laws.{same_back}
use Rattle.values.proofs.integer_of.Goals as goal

pub returns : goal.returns
returns c = search same_back
