use Rattle.library.proofs.ProcedureLaws.{label_count, label_kinds, label_made}
use Rattle.library.proofs.label.Goals as goal

pub returns-then-n-ne2 : goal.returns-then-n-ne2
returns-then-n-ne2 c = search label_count

pub returns-then-not-figure_and_text : goal.returns-then-not-figure_and_text
returns-then-not-figure_and_text c = search label_kinds

pub returns : goal.returns
returns c = search label_made
