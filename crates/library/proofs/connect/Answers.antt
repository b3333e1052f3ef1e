use Rattle.library.proofs.ProcedureLaws.{connect_count, connect_kinds, connect_made}
use Rattle.library.proofs.connect.Goals as goal

pub returns-then-n-ne2 : goal.returns-then-n-ne2
returns-then-n-ne2 c = search connect_count

pub returns-then-not-two_figures : goal.returns-then-not-two_figures
returns-then-not-two_figures c = search connect_kinds

pub returns : goal.returns
returns c = search connect_made
