use Rattle.dispatch.proofs.OperateLaws.{join_left, join_right, joins}
use Rattle.dispatch.proofs.join.Goals as goal

pub returns-then-a-ne-TEXT : goal.returns-then-a-ne-TEXT
returns-then-a-ne-TEXT c = search join_left

pub returns-then-b-ne-TEXT : goal.returns-then-b-ne-TEXT
returns-then-b-ne-TEXT c = search join_right

pub returns : goal.returns
returns c = search joins
