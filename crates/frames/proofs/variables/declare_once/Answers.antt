use Rattle.frames.proofs.VariableLaws.{declares_once}
use Rattle.frames.proofs.variables.declare_once.Goals as goal

pub returns : goal.returns
returns c = search declares_once
