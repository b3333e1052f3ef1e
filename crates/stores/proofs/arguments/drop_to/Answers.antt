use Rattle.stores.proofs.Laws.{drops}
use Rattle.stores.proofs.arguments.drop_to.Goals as goal

pub returns : goal.returns
returns c = search drops
