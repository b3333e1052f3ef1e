use Rattle.names.proofs.Digits.{Reading}
use Rattle.names.proofs.payload.value_of.Given as goal

abbrev pub invariant-loop-d : goal.invariant-loop-d
invariant-loop-d l = Reading l.x l.v l.d-index
