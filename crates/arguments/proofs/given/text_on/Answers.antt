use Rattle.arguments.proofs.FigureLaws.{text_on_is}
use Rattle.arguments.proofs.given.text_on.Goals as goal

pub returns : goal.returns
returns c = search text_on_is
