use Rattle.numbering.proofs.Turns.{Entering}
use Rattle.numbering.proofs.enter_parameters.Given as goal

abbrev pub invariant-loop-k : goal.invariant-loop-k
invariant-loop-k l = Entering l.code l.initial.table l.stamp l.a l.n l.table l.m l.k
