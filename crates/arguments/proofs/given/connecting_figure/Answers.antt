use Rattle.arguments.proofs.FigureLaws.{connecting_given}
use Rattle.arguments.proofs.given.connecting_figure.Goals as goal

pub returns : goal.returns
returns c = search connecting_given
