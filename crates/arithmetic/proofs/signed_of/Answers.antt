use Rattle.arithmetic.proofs.Held.{lowered_fits, lowered_casts, signed_is}
use Rattle.arithmetic.proofs.signed_of.Goals as goal

pub overflow_sub-result : goal.overflow_sub-result
overflow_sub-result c = lowered_fits c.ranges.n c.if-n-lt2147483648.false

pub overflow_cast-result-else-n-lt2147483648-2 : goal.overflow_cast-result-else-n-lt2147483648-2
overflow_cast-result-else-n-lt2147483648-2 c = lowered_casts c.ranges.n c.if-n-lt2147483648.false

pub returns-else-n-lt2147483648 : goal.returns-else-n-lt2147483648
returns-else-n-lt2147483648 c = signed_is c.ranges.n c.if-n-lt2147483648.false
