use lib.IntN.{◌*ℤ◌}
use Rattle.meaning.specs.Integer.{product}
use Rattle.arithmetic.proofs.Held.{widened, wide_fits, wide_wraps, products_fit}
use Rattle.arithmetic.proofs.product.Goals as goal

pub overflow_cast-a : goal.overflow_cast-a
overflow_cast-a c = widened c.ranges.a

pub overflow_cast-b : goal.overflow_cast-b
overflow_cast-b c = widened c.ranges.b

pub overflow_mul-a : goal.overflow_mul-a
overflow_mul-a c = wide_fits ◌*ℤ◌ products_fit c.ranges.a c.ranges.b

pub returns : goal.returns
unfolding product
returns c =
    let z = c.ranges in
    wide_wraps ◌*ℤ◌ products_fit z.a z.b c.wrapped.type_inv c.wrapped.ensures
