use Rattle.fastpath.proofs.Laws.{agree}
use Rattle.fastpath.proofs.sizes_agree.Goals as goal

pub returns : goal.returns
returns c = search agree
