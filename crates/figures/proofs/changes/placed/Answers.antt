use Rattle.figures.proofs.ChangeLaws.{line_placed, other_placed}
use Rattle.figures.proofs.changes.placed.Goals as goal

pub returns-then-f-eq-LINE : goal.returns-then-f-eq-LINE
returns-then-f-eq-LINE c = search line_placed

pub returns : goal.returns
returns c = search other_placed
