use Rattle.figures.proofs.ChangeLaws.{other_numbers}
use Rattle.figures.proofs.changes.renumbered.Goals as goal

pub returns : goal.returns
returns c = search other_numbers
