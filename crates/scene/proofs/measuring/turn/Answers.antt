use mathlib.Core.Path.{refl}
use Rattle.machine.proofs.Acts.{given}
use Rattle.walks.proofs.TurnLaws.{way_bound, past_bound, turn_climbs, turn_over, turn_stops, turn_figure, turn_group, descends}
use Rattle.scene.specs.Measuring.{nothing_left}
use Rattle.scene.proofs.MeasureLaws.{measuring_steady}
use Rattle.scene.proofs.measuring.turn.Goals as goal

pub back_at-requires : goal.back_at-requires
back_at-requires c = search way_bound

pub past-requires : goal.past-requires
past-requires c = past_bound _ _ _ c.requires c.if-w-eq0.false

pub past-requires-then-not-is_group : goal.past-requires-then-not-is_group
past-requires-then-not-is_group c = past_bound _ _ _ c.requires c.if-w-eq0.false

pub descend-requires : goal.descend-requires
descend-requires c = descends _ _ _ _ c.requires c.if-w-eq0.false c.reach.auto.words

pub returns-then-w-eq0 : goal.returns-then-w-eq0
unfolding nothing_left
returns-then-w-eq0 c = turn_climbs _ _ _ _ _ _ c.requires c.if-w-eq0.true (measuring_steady _ _ _) (given tt) refl _ c.back_at.ensures

pub returns-then-is_destroyed : goal.returns-then-is_destroyed
returns-then-is_destroyed c = search turn_over

pub returns-in_err-reach : goal.returns-in_err-reach
returns-in_err-reach c = turn_stops _ _ _ _ _ _ c.requires c.if-w-eq0.false _ c.component_at-c.ensures _
    c.is_destroyed.ensures c.if-is_destroyed.false c.in_err-reach.ensures c.from_residual.ensures.1

pub returns-then-not-is_group : goal.returns-then-not-is_group
returns-then-not-is_group c = turn_figure _ _ _ _ _ _ c.requires c.if-w-eq0.false _ c.component_at-c.ensures _
    c.is_destroyed.ensures c.if-is_destroyed.false (measuring_steady _ _ _) c.in_ok-reach.ensures
    c.reach.auto.words _ c.is_group.ensures c.if-not-is_group.true _ c.past-then-not-is_group.ensures

pub returns : goal.returns
returns c = turn_group _ _ _ _ _ _ c.requires c.if-w-eq0.false _ c.component_at-c.ensures _
    c.is_destroyed.ensures c.if-is_destroyed.false (measuring_steady _ _ _) c.in_ok-reach.ensures
    c.reach.auto.words _ c.is_group.ensures c.if-not-is_group.false c.descend.ensures
