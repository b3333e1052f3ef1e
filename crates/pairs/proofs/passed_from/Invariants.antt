use Rattle.pairs.proofs.PairLaws.{Passed}
use Rattle.pairs.proofs.passed_from.Given as goal

abbrev pub invariant-loop-y : goal.invariant-loop-y
invariant-loop-y l = Passed l.grants l.words l.k l.n l.y
