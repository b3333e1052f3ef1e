use Rattle.loops.proofs.MarkLaws.{marked_is}
use Rattle.loops.proofs.marks.is_marked.Goals as goal

pub returns : goal.returns
returns c = search marked_is
