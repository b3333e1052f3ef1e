use Rattle.machine.specs.Library.{all_shapes}
use Rattle.arguments.proofs.ArgumentLaws.{Asking}
use Rattle.arguments.proofs.all_shapes.Given as goal

abbrev pub invariant-loop-k : goal.invariant-loop-k
invariant-loop-k l = Asking (all_shapes l.p) l.words l.base l.n l.k
