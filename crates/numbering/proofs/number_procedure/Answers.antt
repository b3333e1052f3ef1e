use Rattle.numbering.proofs.Turns.{procedure_numbered}
use Rattle.numbering.proofs.number_procedure.Goals as goal

pub returns : goal.returns
returns c = search procedure_numbered
