use Rattle.numbering.proofs.Turns.{declare_none, declare_more, declare_done}
use Rattle.numbering.proofs.enter_declarations.Goals as goal

pub loop-k-init : goal.loop-k-init
loop-k-init c = search declare_none

pub loop-k-preserved : goal.loop-k-preserved
loop-k-preserved c = search declare_more

pub returns : goal.returns
returns c = search declare_done
