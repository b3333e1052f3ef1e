use Rattle.numbering.specs.Pass.{number_of}
use Rattle.numbering.proofs.Turns.{Renumbering}
use Rattle.numbering.proofs.renumber.Given as goal

abbrev pub invariant-loop-k : goal.invariant-loop-k
invariant-loop-k l = Renumbering (number_of l.table l.stamp l.m) l.initial.code l.a l.n l.code l.slot l.k
