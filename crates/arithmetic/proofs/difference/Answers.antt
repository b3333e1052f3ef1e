use lib.IntN.{◌-ℤ◌}
use Rattle.meaning.specs.Integer.{difference}
use Rattle.arithmetic.proofs.Held.{widened, wide_fits, wide_wraps, differences_fit}
use Rattle.arithmetic.proofs.difference.Goals as goal

pub overflow_cast-a : goal.overflow_cast-a
overflow_cast-a c = widened c.ranges.a

pub overflow_cast-b : goal.overflow_cast-b
overflow_cast-b c = widened c.ranges.b

pub overflow_sub-a : goal.overflow_sub-a
overflow_sub-a c = wide_fits ◌-ℤ◌ differences_fit c.ranges.a c.ranges.b

pub returns : goal.returns
unfolding difference
returns c =
    let z = c.ranges in
    wide_wraps ◌-ℤ◌ differences_fit z.a z.b c.wrapped.type_inv c.wrapped.ensures
