use Rattle.loops.proofs.MarkLaws.{unmarks}
use Rattle.loops.proofs.marks.unmark.Goals as goal

pub returns : goal.returns
returns c = search unmarks
