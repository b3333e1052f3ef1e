use Rattle.fastpath.proofs.Laws.{values_anew}
use Rattle.fastpath.proofs.fast_value.Goals as goal

pub returns : goal.returns
returns c = search values_anew
