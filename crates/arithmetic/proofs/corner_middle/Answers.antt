use Rattle.arithmetic.proofs.Held.{corner_is}
use Rattle.arithmetic.proofs.corner_middle.Goals as goal

pub returns : goal.returns
returns c =
    corner_is c.ranges.x c.ranges.w c.half.type_inv c.sum.type_inv c.half.ensures c.sum.ensures
