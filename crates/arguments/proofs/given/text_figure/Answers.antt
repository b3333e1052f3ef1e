use Rattle.arguments.proofs.FigureLaws.{text_is}
use Rattle.arguments.proofs.given.text_figure.Goals as goal

pub returns : goal.returns
returns c = search text_is
