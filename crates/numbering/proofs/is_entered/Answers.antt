use Rattle.numbering.proofs.Turns.{entered_so}
use Rattle.numbering.proofs.is_entered.Goals as goal

pub returns : goal.returns
returns c = search entered_so
