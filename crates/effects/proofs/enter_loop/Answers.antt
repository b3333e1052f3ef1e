use Rattle.effects.proofs.Laws.{enters}
use Rattle.effects.proofs.enter_loop.Goals as goal

pub returns : goal.returns
returns c = search enters
