use Rattle.showing.proofs.WriteLaws.{figure_none, figure_line}
use Rattle.showing.proofs.write_figure.Goals as goal

pub returns-then-grants-d : goal.returns-then-grants-d
returns-then-grants-d c = search figure_none

pub returns : goal.returns
returns c = search figure_line
