use Rattle.arithmetic.proofs.Held.{divides, remainder_none, remainder_is}
use Rattle.arithmetic.proofs.remainder.Goals as goal

pub nonzero_rem-result : goal.nonzero_rem-result
nonzero_rem-result c = divides c.ranges.a c.ranges.b c.if-b-eqminus1.false c.requires

pub returns-then-b-eqminus1 : goal.returns-then-b-eqminus1
returns-then-b-eqminus1 c = remainder_none c.ranges.a c.ranges.b c.if-b-eqminus1.true

pub returns-else-b-eqminus1 : goal.returns-else-b-eqminus1
returns-else-b-eqminus1 c = remainder_is c.ranges.a c.ranges.b
