use Rattle.machine.specs.Layout.{shapes_granted}
use Rattle.walks.specs.Walks.{owed}
use Rattle.destroying.specs.Destroying.{destroy_reached, destroy_left}
use Rattle.walks.proofs.TurnLaws.{Going}
use Rattle.destroying.proofs.destroy_within.Given as goal

abbrev pub invariant-loop-w : goal.invariant-loop-w
invariant-loop-w l = Going (destroy_reached l.grants) destroy_left l.grants l.p l.i l.initial.words l.words l.w

abbrev pub decreases-loop-w : goal.decreases-loop-w
decreases-loop-w l = owed (shapes_granted l.grants) l.words l.w.depth l.w.left
