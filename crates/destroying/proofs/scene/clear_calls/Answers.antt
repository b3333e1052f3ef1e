use native.Mathlib.Nat.{add-zero}
use native.Mathlib.Omega.{arith}
use Rattle.machine.specs.Variables.{clear_calls}
use Rattle.machine.proofs.Acts.{goes, stops, loading, given}
use Rattle.walks.proofs.Runs.{runs_turn, runs_next, runs_last}
use Rattle.destroying.proofs.scene.clear_calls.Goals as goal

pub returns-in_err-clear_frame : goal.returns-in_err-clear_frame
unfolding clear_calls
returns-in_err-clear_frame c = runs_turn c.loop-d.invariant (omega arith)
    (loading _ _ (loading _ _ (stops _ (rw (c.place_of-at.ensures, add-zero) at c.in_err-clear_frame.ensures) c.from_residual.ensures.1)))

pub loop-d-preserved : goal.loop-d-preserved
unfolding clear_calls
loop-d-preserved c = runs_next c.loop-d.invariant (omega arith) c.clear_frame.auto.words
    (λ s ws h. loading _ _ (loading _ _ (goes _ (rw (c.place_of-at.ensures, add-zero) at c.in_ok-clear_frame.ensures) h)))

pub returns : goal.returns
unfolding clear_calls
returns c = runs_last c.loop-d.invariant (omega arith) (given tt)
