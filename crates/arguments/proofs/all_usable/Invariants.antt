use Rattle.machine.specs.Arguments.{all_usable}
use Rattle.arguments.proofs.ArgumentLaws.{Asking}
use Rattle.arguments.proofs.all_usable.Given as goal

abbrev pub invariant-loop-k : goal.invariant-loop-k
invariant-loop-k l = Asking (all_usable l.p) l.words l.base l.n l.k
