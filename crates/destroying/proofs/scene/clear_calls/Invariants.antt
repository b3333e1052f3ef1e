use Prim.Native.Nat.{◌-◌}
use Rattle.machine.specs.Variables.{clear_calls}
use Rattle.walks.proofs.Runs.{Runs}
use Rattle.destroying.proofs.scene.clear_calls.Given as goal

abbrev pub invariant-loop-d : goal.invariant-loop-d
invariant-loop-d l = Runs (clear_calls l.grants l.p) (clear_calls l.grants l.p 1 (l.calls - 1)) l.calls l.initial.words l.words l.d
