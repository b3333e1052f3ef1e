use Rattle.arithmetic.proofs.Held.{halves, half_is}
use Rattle.arithmetic.proofs.half.Goals as goal

pub nonzero_div-result : goal.nonzero_div-result
nonzero_div-result c = halves c.ranges.a

pub returns : goal.returns
returns c = half_is c.ranges.a
