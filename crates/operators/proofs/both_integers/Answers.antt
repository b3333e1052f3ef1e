use Rattle.operators.proofs.KindLaws.{left_apart, right_left}
use Rattle.operators.proofs.both_integers.Goals as goal

pub returns-then-a-ne-INTEGER : goal.returns-then-a-ne-INTEGER
returns-then-a-ne-INTEGER c = search left_apart

pub returns : goal.returns
returns c = search right_left
