use Rattle.figures.proofs.ChangeLaws.{minus_x_is}
use Rattle.figures.proofs.changes.minus_x.Goals as goal

pub returns : goal.returns
returns c = search minus_x_is
