use Rattle.frames.proofs.VariableLaws.{declared_before, declares}
use Rattle.frames.proofs.variables.declare.Goals as goal

pub returns-then-is_declared : goal.returns-then-is_declared
returns-then-is_declared c = search declared_before

pub returns : goal.returns
returns c = search declares
