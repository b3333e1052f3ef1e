use Rattle.machine.specs.Layout.{shapes_granted}
use Rattle.machine.specs.Groups.{remake_left}
use Rattle.walks.specs.Walks.{owed}
use Rattle.walks.proofs.TurnLaws.{Going}
use Rattle.remaking.specs.Remaking.{remake_reached_by}
use Rattle.remaking.proofs.remake_within.Given as goal

abbrev pub invariant-loop-w : goal.invariant-loop-w
invariant-loop-w l = Going (remake_reached_by l.grants l.tag l.by) (remake_left l.grants) l.grants l.p l.i l.initial.words l.words l.w

abbrev pub decreases-loop-w : goal.decreases-loop-w
decreases-loop-w l = owed (shapes_granted l.grants) l.words l.w.depth l.w.left
