use Rattle.stores.proofs.Laws.{count_is}
use Rattle.stores.proofs.components.count_at.Goals as goal

pub returns : goal.returns
returns c = search count_is
