use Rattle.stores.proofs.Laws.{destroys}
use Rattle.stores.proofs.shapes.destroy.Goals as goal

pub returns : goal.returns
returns c = search destroys
