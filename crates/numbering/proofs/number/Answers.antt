use Rattle.numbering.proofs.Turns.{number_none, number_more, number_done}
use Rattle.numbering.proofs.number.Goals as goal

pub loop-slot-init : goal.loop-slot-init
loop-slot-init c = search number_none

pub loop-slot-preserved : goal.loop-slot-preserved
loop-slot-preserved c = search number_more

pub returns : goal.returns
returns c = search number_done
