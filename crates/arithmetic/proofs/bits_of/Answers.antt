use mathlib.Core.Path.{◌∙◌, ap}
use Rattle.meaning.specs.Integer.{bits}
use Rattle.arithmetic.proofs.Held.{widened, wide_is}
use Rattle.arithmetic.proofs.bits_of.Goals as goal

pub overflow_cast-z : goal.overflow_cast-z
overflow_cast-z c = widened c.ranges.z

pub returns : goal.returns
returns c = c.low_bits.ensures ∙ ap bits (wide_is c.ranges.z)
