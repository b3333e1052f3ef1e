use Rattle.arithmetic.proofs.Held.{negative_is}
use Rattle.arithmetic.proofs.is_negative.Goals as goal

pub returns : goal.returns
returns c = negative_is c.ranges.a
