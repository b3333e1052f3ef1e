use Rattle.stores.proofs.Laws.{component_is}
use Rattle.stores.proofs.components.component_at.Goals as goal

pub returns : goal.returns
returns c = search component_is
