use Rattle.machine.specs.Show.{show_from}
use Rattle.walks.proofs.Runs.{Runs}
use Rattle.scene.specs.Measuring.{size_with}
use Rattle.scene.proofs.measuring.measure_variables.Given as goal

abbrev pub invariant-loop-k : goal.invariant-loop-k
invariant-loop-k l = Runs (show_from (size_with l.program l.texts) l.grants l.f) (show_from (size_with l.program l.texts) l.grants l.f 0 l.n) l.n l.initial.words l.words l.k
