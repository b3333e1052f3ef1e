use mir.Facts.{to_z-of_z}
use Rattle.walks.proofs.TurnLaws.{past_bound, turn_climbs, turn_climb_stops, turn_over, turn_stops, turn_figure, turn_group, descends}
use Rattle.remaking.proofs.RemakingLaws.{steady, back_bound}
use Rattle.remaking.proofs.turn.Goals as goal

pub returns-in_err-leave_group : goal.returns-in_err-leave_group
returns-in_err-leave_group c = turn_climb_stops _ _ _ _ _ _ c.requires.0 c.if-w-eq0.true c.in_err-leave_group.ensures c.from_residual.ensures.1

pub back_at-requires : goal.back_at-requires
back_at-requires c = back_bound _ _ _ _ _ c.requires.0 c.if-w-eq0.true c.in_ok-leave_group.ensures

pub returns-then-w-eq0 : goal.returns-then-w-eq0
returns-then-w-eq0 c = turn_climbs _ _ _ _ _ _ c.requires.0 c.if-w-eq0.true (steady _ _ _) c.in_ok-leave_group.ensures c.leave_group.auto.words _ c.back_at.ensures

pub past-requires : goal.past-requires
past-requires c = past_bound _ _ _ c.requires.0 c.if-w-eq0.false

pub returns-then-is_destroyed : goal.returns-then-is_destroyed
returns-then-is_destroyed c = search turn_over

pub returns-in_err-reach : goal.returns-in_err-reach
returns-in_err-reach c = turn_stops _ _ _ _ _ _ c.requires.0 c.if-w-eq0.false _ c.component_at-c.ensures _
    c.is_destroyed.ensures c.if-is_destroyed.false (rw (to_z-of_z c.ranges.by) at c.in_err-reach.ensures) c.from_residual-in_err-reach.ensures.1

pub past-requires-then-not-is_group : goal.past-requires-then-not-is_group
past-requires-then-not-is_group c = past_bound _ _ _ c.requires.0 c.if-w-eq0.false

pub returns-then-not-is_group : goal.returns-then-not-is_group
returns-then-not-is_group c = turn_figure _ _ _ _ _ _ c.requires.0 c.if-w-eq0.false _ c.component_at-c.ensures _
    c.is_destroyed.ensures c.if-is_destroyed.false (steady _ _ _) (rw (to_z-of_z c.ranges.by) at c.in_ok-reach.ensures)
    c.reach.auto.words _ c.is_group.ensures c.if-not-is_group.true _ c.past-then-not-is_group.ensures

pub descend-requires : goal.descend-requires
descend-requires c = descends _ _ _ _ c.requires.0 c.if-w-eq0.false c.reach.auto.words

pub returns : goal.returns
returns c = turn_group _ _ _ _ _ _ c.requires.0 c.if-w-eq0.false _ c.component_at-c.ensures _
    c.is_destroyed.ensures c.if-is_destroyed.false (steady _ _ _) (rw (to_z-of_z c.ranges.by) at c.in_ok-reach.ensures)
    c.reach.auto.words _ c.is_group.ensures c.if-not-is_group.false c.descend.ensures
