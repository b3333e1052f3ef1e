use Rattle.machine.specs.Layout.{shapes_granted}
use Rattle.walks.specs.Walks.{owed}
use Rattle.loops.proofs.MarkLaws.{Looks}
use Rattle.loops.proofs.looking.look.Given as goal

abbrev pub invariant-loop-w : goal.invariant-loop-w
invariant-loop-w l = Looks l.grants l.first l.count l.initial.words l.words l.w

abbrev pub decreases-loop-w : goal.decreases-loop-w
decreases-loop-w l = owed (shapes_granted l.grants) l.words l.w.depth l.w.left
