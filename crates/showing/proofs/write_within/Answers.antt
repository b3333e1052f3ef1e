use native.Mathlib.Omega.{arith}
use Rattle.showing.proofs.WriteLaws.{show_first, show_under, show_over, show_next}
use Rattle.showing.proofs.write_within.Goals as goal

pub loop-w-init : goal.loop-w-init
loop-w-init c =
    show_first _ _ _ _ _ _ _ _ _ (omega arith) (omega arith) c.requires c.first_at.ensures c.count_within.ensures

pub write_reached-at-requires : goal.write_reached-at-requires
write_reached-at-requires c = search show_under

pub turn-w-requires : goal.turn-w-requires
turn-w-requires c = search show_under

pub loop-w-preserved : goal.loop-w-preserved
loop-w-preserved c = show_next _ _ _ _ _ _ _ _ _ _ _ c.loop-w.invariant _ _ c.turn-w.ensures _ _ c.write_reached-at.ensures

pub loop-w-smaller : goal.loop-w-smaller
loop-w-smaller c = c.turn-w.ensures.less

pub returns : goal.returns
returns c = search show_over
