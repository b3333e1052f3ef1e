use Rattle.loops.proofs.MarkLaws.{no_mark, mark_cleared}
use Rattle.loops.proofs.marks.clear_mark.Goals as goal

pub returns-then-is_marked : goal.returns-then-is_marked
returns-then-is_marked c = search mark_cleared

pub returns-else-is_marked : goal.returns-else-is_marked
returns-else-is_marked c = search no_mark
