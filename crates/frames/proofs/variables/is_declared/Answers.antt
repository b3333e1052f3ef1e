use Rattle.frames.proofs.VariableLaws.{is_declared_lem}
use Rattle.frames.proofs.variables.is_declared.Goals as goal

pub returns : goal.returns
returns c = search is_declared_lem
