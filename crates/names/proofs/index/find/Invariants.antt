use Rattle.names.proofs.Walk.{Walking}
use Rattle.names.proofs.index.find.Given as goal

abbrev pub invariant-loop-j : goal.invariant-loop-j
invariant-loop-j l = Walking l.program l.tokens l.index l.n l.kind l.x l.b l.next

abbrev pub decreases-loop-j : goal.decreases-loop-j
decreases-loop-j l = l.next
