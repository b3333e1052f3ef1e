use Rattle.stores.proofs.Laws.{followers_are}
use Rattle.stores.proofs.components.followers_at.Goals as goal

pub returns : goal.returns
returns c = search followers_are
