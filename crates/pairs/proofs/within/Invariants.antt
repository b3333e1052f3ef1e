use Rattle.machine.specs.Layout.{shapes_granted}
use Rattle.walks.specs.Walks.{owed}
use Rattle.pairs.proofs.PairLaws.{PairsGo}
use Rattle.pairs.proofs.within.Given as goal

abbrev pub invariant-loop-next : goal.invariant-loop-next
invariant-loop-next l = PairsGo l.program l.grants l.p l.texts l.i l.j l.initial.words l.words l.w

abbrev pub decreases-loop-next : goal.decreases-loop-next
decreases-loop-next l = owed (shapes_granted l.grants) l.words l.w.depth l.w.left
