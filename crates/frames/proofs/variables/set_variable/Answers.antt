use Rattle.frames.proofs.VariableLaws.{sets_variable}
use Rattle.frames.proofs.variables.set_variable.Goals as goal

pub returns : goal.returns
returns c = search sets_variable
