use Rattle.stores.proofs.Laws.{is_destroyed}
use Rattle.stores.proofs.shapes.is_destroyed.Goals as goal

pub returns : goal.returns
returns c = search is_destroyed
