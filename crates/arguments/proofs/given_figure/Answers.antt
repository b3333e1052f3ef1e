use Rattle.arguments.proofs.ArgumentLaws.{figure_is}
use Rattle.arguments.proofs.given_figure.Goals as goal

pub returns : goal.returns
returns c = search figure_is
