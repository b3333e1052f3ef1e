use Rattle.stores.proofs.Laws.{is_group}
use Rattle.stores.proofs.shapes.is_group.Goals as goal

pub returns : goal.returns
returns c = search is_group
