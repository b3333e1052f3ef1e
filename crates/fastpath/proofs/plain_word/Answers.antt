use Rattle.fastpath.proofs.Laws.{plain_integer, plain_truth, plain_other}
use Rattle.fastpath.proofs.plain_word.Goals as goal

pub returns-then-u-eq-INTEGER : goal.returns-then-u-eq-INTEGER
returns-then-u-eq-INTEGER c = search plain_integer

pub returns-then-u-eq-TRUTH : goal.returns-then-u-eq-TRUTH
returns-then-u-eq-TRUTH c = search plain_truth

pub returns : goal.returns
returns c = search plain_other
