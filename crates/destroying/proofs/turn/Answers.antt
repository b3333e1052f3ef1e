use mathlib.Core.Path.{refl, ◌∙◌}
use Rattle.machine.proofs.Acts.{goes, fails, sure, given}
use Rattle.walks.proofs.TurnLaws.{way_bound, past_bound, turn_climbs, turn_over, turn_stops, turn_figure, turn_group, descends}
use Rattle.destroying.specs.Destroying.{destroy_reached, destroy_left}
use Rattle.destroying.proofs.DestroyLaws.{destroying_steady}
use Rattle.destroying.proofs.turn.Goals as goal

pub back_at-requires : goal.back_at-requires
back_at-requires c = search way_bound

pub past-requires : goal.past-requires
past-requires c = past_bound _ _ _ c.requires c.if-w-eq0.false

pub past-requires-then-not-is_group : goal.past-requires-then-not-is_group
past-requires-then-not-is_group c = past_bound _ _ _ c.requires c.if-w-eq0.false

pub descend-requires : goal.descend-requires
descend-requires c = descends _ _ _ _ c.requires c.if-w-eq0.false (c.destroy.auto.words ∙ c.take_step.auto.words)

pub returns-then-w-eq0 : goal.returns-then-w-eq0
unfolding destroy_left
returns-then-w-eq0 c = turn_climbs _ _ _ _ _ _ c.requires c.if-w-eq0.true (destroying_steady _) (given tt) refl _ c.back_at.ensures

pub returns-then-is_destroyed : goal.returns-then-is_destroyed
returns-then-is_destroyed c = search turn_over

pub returns-in_err-take_step : goal.returns-in_err-take_step
unfolding destroy_reached
returns-in_err-take_step c = turn_stops _ _ _ _ _ _ c.requires c.if-w-eq0.false _ c.component_at-c.ensures _
    c.is_destroyed.ensures c.if-is_destroyed.false (fails _ c.in_err-take_step.ensures) c.from_residual.ensures.1

pub returns-then-not-is_group : goal.returns-then-not-is_group
unfolding destroy_reached
returns-then-not-is_group c = turn_figure _ _ _ _ _ _ c.requires c.if-w-eq0.false _ c.component_at-c.ensures _
    c.is_destroyed.ensures c.if-is_destroyed.false (destroying_steady _) (goes _ c.in_ok-take_step.ensures (sure c.destroy.ensures))
    (c.destroy.auto.words ∙ c.take_step.auto.words) _ c.is_group.ensures c.if-not-is_group.true _ c.past-then-not-is_group.ensures

pub returns : goal.returns
unfolding destroy_reached
returns c = turn_group _ _ _ _ _ _ c.requires c.if-w-eq0.false _ c.component_at-c.ensures _ c.is_destroyed.ensures c.if-is_destroyed.false
    (destroying_steady _) (goes _ c.in_ok-take_step.ensures (sure c.destroy.ensures))
    (c.destroy.auto.words ∙ c.take_step.auto.words) _ c.is_group.ensures c.if-not-is_group.false c.descend.ensures
