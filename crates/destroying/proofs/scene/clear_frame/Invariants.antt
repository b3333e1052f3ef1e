use Rattle.machine.specs.Variables.{clear_from}
use Rattle.walks.proofs.Runs.{Runs}
use Rattle.destroying.proofs.scene.clear_frame.Given as goal

abbrev pub invariant-loop-k : goal.invariant-loop-k
invariant-loop-k l = Runs (clear_from l.grants l.p l.f) (clear_from l.grants l.p l.f 0 l.n) l.n l.initial.words l.words l.k
