use Rattle.arguments.proofs.FigureLaws.{line_centre, box_centre, other_centre}
use Rattle.arguments.proofs.given.centre.Goals as goal

pub returns-in-0 : goal.returns-in-0
returns-in-0 c = search line_centre

pub returns-in-2 : goal.returns-in-2
returns-in-2 c = search box_centre

pub returns-in_default : goal.returns-in_default
returns-in_default c = search other_centre
