use Rattle.frames.proofs.VariableLaws.{number_at}
use Rattle.frames.proofs.variables.number_of.Goals as goal

pub returns : goal.returns
returns c = search number_at
