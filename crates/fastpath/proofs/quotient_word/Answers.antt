use Rattle.fastpath.proofs.Laws.{divides_by_zero, divides}
use Rattle.fastpath.proofs.quotient_word.Goals as goal

pub returns-then-is_zero : goal.returns-then-is_zero
returns-then-is_zero c = search divides_by_zero

pub quotient-requires : goal.quotient-requires
quotient-requires c = cc

pub returns : goal.returns
returns c = search divides
