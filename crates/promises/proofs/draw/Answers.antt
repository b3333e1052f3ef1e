-- `promises::draw`: what `drawing::draw` promises is a call that has returned.
use Rattle.promises.proofs.Calls.{drawn_so}
use Rattle.promises.proofs.draw.Goals as goal

pub returns : goal.returns
returns c = search drawn_so
