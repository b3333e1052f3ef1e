use lib.IntN.{◌+ℤ◌}
use Rattle.meaning.specs.Integer.{sum}
use Rattle.arithmetic.proofs.Held.{widened, wide_fits, wide_wraps, sums_fit}
use Rattle.arithmetic.proofs.sum.Goals as goal

pub overflow_cast-a : goal.overflow_cast-a
overflow_cast-a c = widened c.ranges.a

pub overflow_cast-b : goal.overflow_cast-b
overflow_cast-b c = widened c.ranges.b

pub overflow_add-a : goal.overflow_add-a
overflow_add-a c = wide_fits ◌+ℤ◌ sums_fit c.ranges.a c.ranges.b

pub returns : goal.returns
unfolding sum
returns c =
    let z = c.ranges in
    wide_wraps ◌+ℤ◌ sums_fit z.a z.b c.wrapped.type_inv c.wrapped.ensures
