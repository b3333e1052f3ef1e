use Rattle.machine.specs.Layout.{shapes_granted}
use Rattle.walks.specs.Walks.{owed}
use Rattle.scene.specs.Measuring.{measure_reached, nothing_left}
use Rattle.walks.proofs.TurnLaws.{Going}
use Rattle.scene.proofs.measuring.measure_within.Given as goal

abbrev pub invariant-loop-w : goal.invariant-loop-w
invariant-loop-w l = Going (measure_reached l.program l.texts l.grants) nothing_left l.grants 0 l.i l.initial.words l.words l.w

abbrev pub decreases-loop-w : goal.decreases-loop-w
decreases-loop-w l = owed (shapes_granted l.grants) l.words l.w.depth l.w.left
