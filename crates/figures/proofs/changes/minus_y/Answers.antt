use Rattle.figures.proofs.ChangeLaws.{minus_y_is}
use Rattle.figures.proofs.changes.minus_y.Goals as goal

pub returns : goal.returns
returns c = search minus_y_is
