use Rattle.operators.proofs.IntegerLaws.{no_remainder, leaves}
use Rattle.operators.proofs.integers.remainder.Goals as goal

pub returns-then-is_zero : goal.returns-then-is_zero
returns-then-is_zero c = search no_remainder

pub remainder-requires : goal.remainder-requires
remainder-requires c = cc

pub returns : goal.returns
returns c = search leaves
