use Rattle.arithmetic.proofs.Held.{same_is}
use Rattle.arithmetic.proofs.same.Goals as goal

pub returns : goal.returns
returns c = same_is _ _ c.ranges.a c.ranges.b
