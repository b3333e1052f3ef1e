use Rattle.arguments.proofs.FigureLaws.{centre_is_y}
use Rattle.arguments.proofs.given.centre_y.Goals as goal

pub returns : goal.returns
returns c = search centre_is_y
