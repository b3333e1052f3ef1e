use Rattle.figures.proofs.ChangeLaws.{scaled_down_is}
use Rattle.figures.proofs.changes.scaled_down.Goals as goal

pub returns : goal.returns
returns c = search scaled_down_is
