use Rattle.names.proofs.Hashing.{Hashing}
use Rattle.names.proofs.index.hash.Given as goal

abbrev pub invariant-loop-b : goal.invariant-loop-b
invariant-loop-b l = Hashing l.x l.from l.h l.b-index
