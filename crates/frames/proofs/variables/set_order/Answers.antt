use Rattle.frames.proofs.VariableLaws.{sets_order}
use Rattle.frames.proofs.variables.set_order.Goals as goal

pub returns : goal.returns
returns c = search sets_order
