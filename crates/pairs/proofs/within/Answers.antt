use Rattle.pairs.proofs.PairLaws.{pairs_first, pairs_next, pairs_less, pairs_settled, pairs_stop}
use Rattle.pairs.proofs.within.Goals as goal

pub loop-next-init : goal.loop-next-init
loop-next-init c = search pairs_first

pub returns-in_err-next : goal.returns-in_err-next
returns-in_err-next c = pairs_stop _ _ _ _ _ _ _ _ _ c.loop-next.invariant _ _ _ c.in_err-next.ensures c.from_residual.ensures.1

pub loop-next-smaller : goal.loop-next-smaller
loop-next-smaller c = pairs_less _ _ _ _ _ _ _ _ _ c.loop-next.invariant _ _ (rw c.in-Continue.is at c.in_ok-next.ensures)

pub loop-next-preserved : goal.loop-next-preserved
loop-next-preserved c = pairs_next _ _ _ _ _ _ _ _ _ c.loop-next.invariant _ _ (rw c.in-Continue.is at c.in_ok-next.ensures) c.turn.auto.words

pub returns-in-Break : goal.returns-in-Break
returns-in-Break c = pairs_settled _ _ _ _ _ _ _ _ _ c.loop-next.invariant _ _ (rw c.in-Break.is at c.in_ok-next.ensures)
