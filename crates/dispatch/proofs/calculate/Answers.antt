use Rattle.dispatch.proofs.OperateLaws.{not_shape, not_number, calculates}
use Rattle.dispatch.proofs.calculate.Goals as goal

pub returns-then-a-ne-SHAPE : goal.returns-then-a-ne-SHAPE
returns-then-a-ne-SHAPE c = search not_shape

pub returns-then-b-ne-INTEGER : goal.returns-then-b-ne-INTEGER
returns-then-b-ne-INTEGER c = search not_number

pub returns : goal.returns
returns c = search calculates
