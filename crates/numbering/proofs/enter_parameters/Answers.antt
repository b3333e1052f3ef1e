use Rattle.numbering.proofs.Turns.{enter_none, enter_more, enter_done}
use Rattle.numbering.proofs.enter_parameters.Goals as goal

pub loop-k-init : goal.loop-k-init
loop-k-init c = search enter_none

pub loop-k-preserved : goal.loop-k-preserved
loop-k-preserved c = search enter_more

pub returns : goal.returns
returns c = search enter_done
