use Rattle.numbering.proofs.Turns.{Declaring}
use Rattle.numbering.proofs.enter_declarations.Given as goal

abbrev pub invariant-loop-k : goal.invariant-loop-k
invariant-loop-k l = Declaring l.code l.initial.table l.stamp l.a l.n l.m l.table l.all l.slot l.k
