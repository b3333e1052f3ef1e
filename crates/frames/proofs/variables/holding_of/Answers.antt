use Rattle.frames.proofs.VariableLaws.{holds_of}
use Rattle.frames.proofs.variables.holding_of.Goals as goal

pub returns : goal.returns
returns c = search holds_of
