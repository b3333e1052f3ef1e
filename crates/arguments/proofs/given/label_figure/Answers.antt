use Rattle.arguments.proofs.FigureLaws.{label_given}
use Rattle.arguments.proofs.given.label_figure.Goals as goal

pub returns : goal.returns
returns c = search label_given
