use Rattle.numbering.proofs.Turns.{framed_not, framed_so}
use Rattle.numbering.proofs.framed.Goals as goal

pub returns-then-m-n : goal.returns-then-m-n
returns-then-m-n c = search framed_not

pub returns : goal.returns
returns c = search framed_so
