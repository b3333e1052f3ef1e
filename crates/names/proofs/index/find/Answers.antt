-- `names::index::find` meets its contract: a walk along the bucket, whose links fall.
use native.Mathlib.Omega.{arith}
use Rattle.names.proofs.Walk.{walk_begin, walk_found, walk_less, walk_on, walk_over}
use Rattle.names.proofs.index.find.Goals as goal

pub loop-j-init : goal.loop-j-init
loop-j-init c = search walk_begin

pub returns-then-is_spelled : goal.returns-then-is_spelled
returns-then-is_spelled c = walk_found _ _ _ _ _ _ _ _ c.loop-j.invariant _ _ c.in-Some.ensures.0 c.in-Some.ensures.1
    c.is_spelled.ensures c.if-is_spelled.true

pub loop-j-smaller : goal.loop-j-smaller
loop-j-smaller c = walk_less _ _ _ _ _ _ _ _ c.loop-j.invariant _ _ c.in-Some.ensures.0 c.in-Some.ensures.1 c.link_at-next.ensures

pub loop-j-preserved : goal.loop-j-preserved
loop-j-preserved c = walk_on _ _ _ _ _ _ _ _ c.loop-j.invariant _ _ _ c.in-Some.ensures.0 c.in-Some.ensures.1
    c.is_spelled.ensures c.if-is_spelled.false c.link_at-next.ensures

pub returns : goal.returns
returns c = walk_over _ _ _ _ _ _ _ _ c.loop-j.invariant (omega (arith, c.in_default.ensures))
