use Rattle.figures.proofs.ChangeLaws.{scaled_up_is}
use Rattle.figures.proofs.changes.scaled_up.Goals as goal

pub returns : goal.returns
returns c = search scaled_up_is
