use Rattle.operators.proofs.IntegerLaws.{divides_by_zero, divides}
use Rattle.operators.proofs.integers.divide.Goals as goal

pub returns-then-is_zero : goal.returns-then-is_zero
returns-then-is_zero c = search divides_by_zero

pub quotient-requires : goal.quotient-requires
quotient-requires c = cc

pub returns : goal.returns
returns c = search divides
