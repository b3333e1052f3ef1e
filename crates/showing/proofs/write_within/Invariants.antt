use Rattle.machine.specs.Layout.{shapes_granted}
use Rattle.walks.specs.Walks.{owed}
use Rattle.showing.proofs.WriteLaws.{Showing}
use Rattle.showing.proofs.write_within.Given as goal

abbrev pub invariant-loop-w : goal.invariant-loop-w
invariant-loop-w l = Showing l.program l.texts l.grants l.initial.words l.i l.start l.initial.out l.words l.out l.w l.at

abbrev pub decreases-loop-w : goal.decreases-loop-w
decreases-loop-w l = owed (shapes_granted l.grants) l.words l.w.depth l.w.left
