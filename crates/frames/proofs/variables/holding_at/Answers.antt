use Rattle.frames.proofs.VariableLaws.{holds_at}
use Rattle.frames.proofs.variables.holding_at.Goals as goal

pub returns : goal.returns
returns c = search holds_at
