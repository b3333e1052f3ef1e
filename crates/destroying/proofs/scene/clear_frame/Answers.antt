use native.Mathlib.Omega.{arith}
use Rattle.machine.specs.Variables.{clear_from}
use Rattle.machine.proofs.Acts.{goes, stops, holding, given}
use Rattle.walks.proofs.Runs.{runs_first, runs_room, runs_long, runs_turn, runs_next, runs_last}
use Rattle.destroying.proofs.scene.clear_frame.Goals as goal

pub loop-k-init : goal.loop-k-init
loop-k-init c = runs_first _ _ (omega arith)

pub holding_of-w-requires : goal.holding_of-w-requires
holding_of-w-requires c = search runs_long

pub destroy_in-requires : goal.destroy_in-requires
destroy_in-requires c = search runs_room

pub returns-in_err-destroy_in : goal.returns-in_err-destroy_in
unfolding clear_from
returns-in_err-destroy_in c = runs_turn c.loop-k.invariant (omega arith)
    (holding _ (stops _ (rw c.holding_of-w.ensures at c.in_err-destroy_in.ensures) c.from_residual.ensures.1))

pub loop-k-preserved : goal.loop-k-preserved
unfolding clear_from
loop-k-preserved c = runs_next c.loop-k.invariant (omega arith) c.destroy_in.auto.words
    (λ s ws h. holding _ (goes _ (rw c.holding_of-w.ensures at c.in_ok-destroy_in.ensures) h))

pub returns : goal.returns
unfolding clear_from
returns c = runs_last c.loop-k.invariant (omega arith) (given tt)
