-- `names::index::link_at` meets its contract.
use mathlib.Core.Path.{refl}
use Rattle.names.specs.Index.{link_at}
use Rattle.names.proofs.index.link_at.Goals as goal

pub returns : goal.returns
unfolding link_at
returns c = refl
