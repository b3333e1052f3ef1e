use mathlib.Core.Path.{refl}
use Rattle.groups.proofs.WaitingLaws.{waits}
use Rattle.groups.proofs.waiting.await_shape.Goals as goal

pub returns : goal.returns
returns c = waits _ _ _ _ _ refl c.place_of.ensures c.put.ensures
