use Rattle.fastpath.proofs.Laws.{no_argument, argument_leaf, argument_operation}
use Rattle.fastpath.proofs.argument_value.Goals as goal

pub returns-then-depth-eq0 : goal.returns-then-depth-eq0
returns-then-depth-eq0 c = search no_argument

pub returns-then-tag_of-lt-FIRST_OPERATOR : goal.returns-then-tag_of-lt-FIRST_OPERATOR
returns-then-tag_of-lt-FIRST_OPERATOR c = search argument_leaf

pub returns : goal.returns
returns c = search argument_operation
