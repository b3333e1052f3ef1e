-- `report::place::locate` meets its contract: p is the position behind the bytes so far.
-- Assumes nothing.
use native.Mathlib.Omega.{arith}
use lib.ListN.{length-take}
use Rattle.report.specs.Positions.{position_of}
use Rattle.report.proofs.Placing.{locate_none, locate_small, locate_more, locate_all}
use Rattle.report.proofs.place.locate.Goals as goal

pub loop-b-init : goal.loop-b-init
loop-b-init c = locate_none _

pub after-p-requires : goal.after-p-requires
after-p-requires c = locate_small _ _ _ c.loop-b.invariant (omega (arith, length-take c.args.place c.args.program.now))

pub loop-b-preserved : goal.loop-b-preserved
loop-b-preserved c = locate_more _ _ _ c.loop-b.invariant _ c.loop-b-test.true c.after-p.ensures

pub returns : goal.returns
unfolding position_of
returns c = locate_all _ _ _ c.loop-b.invariant c.loop-b-test.false
