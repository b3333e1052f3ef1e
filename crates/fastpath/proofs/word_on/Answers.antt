use Rattle.fastpath.proofs.Laws.{left_other, right_other, on_integers}
use Rattle.fastpath.proofs.word_on.Goals as goal

pub returns-then-a-ne-INTEGER : goal.returns-then-a-ne-INTEGER
returns-then-a-ne-INTEGER c = search left_other

pub returns-then-b-ne-INTEGER : goal.returns-then-b-ne-INTEGER
returns-then-b-ne-INTEGER c = search right_other

pub returns : goal.returns
returns c = search on_integers
