use Rattle.numbering.proofs.Turns.{renumber_none, renumber_more, renumber_all}
use Rattle.numbering.proofs.renumber.Goals as goal

pub loop-k-init : goal.loop-k-init
loop-k-init c = search renumber_none

pub loop-k-preserved : goal.loop-k-preserved
loop-k-preserved c = search renumber_more

pub returns : goal.returns
returns c = search renumber_all
