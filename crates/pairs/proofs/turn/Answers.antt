use native.Mathlib.Omega.{arith}
use Rattle.pairs.proofs.PairLaws.{pairs_none, turn_ends, turn_over, turn_short, turn_pair, pair_asks, right_most, right_more}
use Rattle.pairs.proofs.turn.Goals as goal

pub end-requires : goal.end-requires
end-requires c = search pairs_none

pub returns-then-w-eq0 : goal.returns-then-w-eq0
returns-then-w-eq0 c = search turn_ends

pub returns-then-is_destroyed : goal.returns-then-is_destroyed
returns-then-is_destroyed c = turn_over _ _ _ _ _ _ _ _ _ _ c.component_at.ensures _ c.is_destroyed.ensures _ c.requires c.if-w-eq0.false c.if-is_destroyed.true

pub returns-then-y-w : goal.returns-then-y-w
returns-then-y-w c = search turn_short

pub overflow_add-pair_ways : goal.overflow_add-pair_ways
overflow_add-pair_ways c = omega (arith, right_most _ _ _ _ _ c.passed_from-y.ensures, c.requires.small')

pub overflow_sub-pair_ways-2 : goal.overflow_sub-pair_ways-2
overflow_sub-pair_ways-2 c = right_most _ _ _ _ _ c.passed_from-y.ensures

pub overflow_sub-pair_ways-3 : goal.overflow_sub-pair_ways-3
overflow_sub-pair_ways-3 c = right_more _ _ _ _ _ c.passed_from-y.ensures c.if-y-w.false

pub pair-requires : goal.pair-requires
pair-requires c = search pair_asks

pub returns : goal.returns
returns c = search turn_pair
