use Rattle.figures.proofs.ChangeLaws.{plus_x_is}
use Rattle.figures.proofs.changes.plus_x.Goals as goal

pub returns : goal.returns
returns c = search plus_x_is
