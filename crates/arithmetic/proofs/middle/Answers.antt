use lib.IntN.{◌+ℤ◌}
use Rattle.arithmetic.proofs.Held.{widened, wide_fits, sums_fit, middle_divides, middle_casts, middle_is}
use Rattle.arithmetic.proofs.middle.Goals as goal

pub overflow_cast-result : goal.overflow_cast-result
overflow_cast-result c = widened c.ranges.a

pub overflow_cast-result-2 : goal.overflow_cast-result-2
overflow_cast-result-2 c = widened c.ranges.b

pub overflow_add-result : goal.overflow_add-result
overflow_add-result c = wide_fits ◌+ℤ◌ sums_fit c.ranges.a c.ranges.b

pub nonzero_div-result : goal.nonzero_div-result
nonzero_div-result c = middle_divides c.ranges.a c.ranges.b

pub overflow_cast-result-3 : goal.overflow_cast-result-3
overflow_cast-result-3 c = middle_casts c.ranges.a c.ranges.b

pub returns : goal.returns
returns c = middle_is c.ranges.a c.ranges.b
