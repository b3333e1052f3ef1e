use Rattle.fastpath.proofs.Laws.{leaf_found, leaf_or_other}
use Rattle.fastpath.proofs.leaf_argument.Goals as goal

pub returns-then-v-eq0 : goal.returns-then-v-eq0
returns-then-v-eq0 c = search leaf_or_other

pub returns : goal.returns
returns c = search leaf_found
