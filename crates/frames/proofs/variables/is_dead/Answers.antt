use Rattle.frames.proofs.VariableLaws.{not_dead, dead_shape}
use Rattle.frames.proofs.variables.is_dead.Goals as goal

pub returns-then-w-ne-SHAPE : goal.returns-then-w-ne-SHAPE
returns-then-w-ne-SHAPE c = search not_dead

pub returns : goal.returns
returns c = search dead_shape
