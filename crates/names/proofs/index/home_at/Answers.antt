-- `names::index::home_at` meets its contract.
use mathlib.Core.Path.{refl}
use Rattle.names.specs.Index.{home_at}
use Rattle.names.proofs.index.home_at.Goals as goal

pub returns : goal.returns
unfolding home_at
returns c = refl
