use Rattle.arguments.proofs.FigureLaws.{drawn_is}
use Rattle.arguments.proofs.given.drawn_figure.Goals as goal

pub returns : goal.returns
returns c = search drawn_is
