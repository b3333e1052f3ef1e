use Rattle.arguments.proofs.FigureLaws.{connecting_is}
use Rattle.arguments.proofs.given.connecting.Goals as goal

pub returns : goal.returns
returns c = search connecting_is
