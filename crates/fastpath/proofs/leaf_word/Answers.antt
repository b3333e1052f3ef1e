use Rattle.fastpath.proofs.Laws.{leaf_number, leaf_name, leaf_other}
use Rattle.fastpath.proofs.leaf_word.Goals as goal

pub returns-then-head-eq-NUMBER : goal.returns-then-head-eq-NUMBER
returns-then-head-eq-NUMBER c = search leaf_number

pub returns-then-head-eq-NAME : goal.returns-then-head-eq-NAME
returns-then-head-eq-NAME c = search leaf_name

pub returns : goal.returns
returns c = search leaf_other
