use Rattle.loops.proofs.MarkLaws.{gives_up}
use Rattle.loops.proofs.marks.give_up.Goals as goal

pub returns : goal.returns
returns c = search gives_up
