use Rattle.arithmetic.proofs.Held.{low_casts, low_is}
use Rattle.arithmetic.proofs.low_bits.Goals as goal

pub overflow_cast-result : goal.overflow_cast-result
overflow_cast-result c = low_casts c.ranges.z

pub returns : goal.returns
returns c = low_is c.ranges.z
