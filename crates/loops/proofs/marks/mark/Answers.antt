use Rattle.loops.proofs.MarkLaws.{marks}
use Rattle.loops.proofs.marks.mark.Goals as goal

pub returns : goal.returns
returns c = search marks
