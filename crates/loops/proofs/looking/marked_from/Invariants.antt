use Rattle.loops.proofs.MarkLaws.{Seeks}
use Rattle.loops.proofs.looking.marked_from.Given as goal

abbrev pub invariant-loop-k : goal.invariant-loop-k
invariant-loop-k l = Seeks l.grants l.words l.from l.end l.k
