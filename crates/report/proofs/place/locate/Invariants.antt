use lib.ListN.{take}
use Rattle.report.proofs.Placing.{Locating}
use Rattle.report.proofs.place.locate.Given as goal

abbrev pub invariant-loop-b : goal.invariant-loop-b
invariant-loop-b l = Locating (take l.place l.program) l.p l.b-index
