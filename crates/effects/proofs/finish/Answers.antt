use Rattle.effects.proofs.Laws.{is_assignment}
use Rattle.machine.proofs.Acts.{sure}
use Rattle.effects.proofs.finish.Goals as goal

pub returns-then-kind_of-eq-SHAPE : goal.returns-then-kind_of-eq-SHAPE
returns-then-kind_of-eq-SHAPE c = search is_assignment

pub returns-then-tag_of-eq-ASSIGN : goal.returns-then-tag_of-eq-ASSIGN
returns-then-tag_of-eq-ASSIGN c = search is_assignment

pub returns : goal.returns
returns c = sure (c.pass_on.ensures _ _ _)
