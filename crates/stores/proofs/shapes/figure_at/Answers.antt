use Rattle.stores.proofs.Laws.{figure_is}
use Rattle.stores.proofs.shapes.figure_at.Goals as goal

pub returns : goal.returns
returns c = search figure_is
