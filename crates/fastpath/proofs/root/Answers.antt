use Rattle.fastpath.proofs.Laws.{too_deep, is_leaf, is_operation_anew}
use Rattle.fastpath.proofs.root.Goals as goal

pub returns-then-depth-eq0 : goal.returns-then-depth-eq0
returns-then-depth-eq0 c = search too_deep

pub returns-then-tag_of-lt-FIRST_OPERATOR : goal.returns-then-tag_of-lt-FIRST_OPERATOR
returns-then-tag_of-lt-FIRST_OPERATOR c = search is_leaf

pub returns : goal.returns
returns c = search is_operation_anew
