use Rattle.figures.proofs.ChangeLaws.{plus_y_is}
use Rattle.figures.proofs.changes.plus_y.Goals as goal

pub returns : goal.returns
returns c = search plus_y_is
