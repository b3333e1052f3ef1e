use Rattle.walks.proofs.TurnLaws.{go_first, under, go_over, go_next, go_less, go_stops}
use Rattle.destroying.proofs.destroy_within.Goals as goal

pub loop-w-init : goal.loop-w-init
loop-w-init c = search go_first

pub turn-requires : goal.turn-requires
turn-requires c = search under

pub returns-in_err-w : goal.returns-in_err-w
returns-in_err-w c = go_stops _ _ _ _ _ _ _ _ c.loop-w.invariant _ c.in_err-w.ensures c.from_residual.ensures.1

pub loop-w-smaller : goal.loop-w-smaller
loop-w-smaller c = go_less _ _ _ _ _ _ _ _ c.loop-w.invariant _ _ c.in_ok-w.ensures

pub loop-w-preserved : goal.loop-w-preserved
loop-w-preserved c = go_next _ _ _ _ _ _ _ _ c.loop-w.invariant _ _ c.in_ok-w.ensures c.turn.auto.words

pub returns : goal.returns
returns c = search go_over
