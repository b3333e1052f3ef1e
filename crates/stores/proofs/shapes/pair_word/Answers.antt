use Rattle.stores.proofs.Laws.{pair_is}
use Rattle.stores.proofs.shapes.pair_word.Goals as goal

pub returns : goal.returns
returns c = search pair_is
