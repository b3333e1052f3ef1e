use Rattle.library.proofs.ProcedureLaws.{draw_count, draw_kinds, draw_made}
use Rattle.library.proofs.draw.Goals as goal

pub returns-then-n-ne4 : goal.returns-then-n-ne4
returns-then-n-ne4 c = search draw_count

pub returns-then-not-four_integers : goal.returns-then-not-four_integers
returns-then-not-four_integers c = search draw_kinds

pub returns : goal.returns
returns c = search draw_made
