use Rattle.stores.proofs.Laws.{first_is}
use Rattle.stores.proofs.components.first_at.Goals as goal

pub returns : goal.returns
returns c = search first_is
