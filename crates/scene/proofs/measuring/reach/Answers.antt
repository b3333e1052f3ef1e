use mathlib.Core.Path.{sym, ◌∙◌}
use Rattle.machine.proofs.Acts.{goes, stops, sure, holding, taken, other, given}
use Rattle.scene.specs.Measuring.{measure_reached}
use Rattle.scene.proofs.measuring.reach.Goals as goal

pub returns-in_err-take_step : goal.returns-in_err-take_step
unfolding measure_reached
returns-in_err-take_step c = stops _ c.in_err-take_step.ensures c.from_residual.ensures.1

pub returns-then-not-is_group : goal.returns-then-not-is_group
unfolding measure_reached
returns-then-not-is_group c = goes _ c.in_ok-take_step.ensures
    (holding _ (other _ _ _ (sym c.is_group.ensures ∙ c.if-not-is_group.true) (sure c.measure.ensures)))

pub returns-else-not-is_group : goal.returns-else-not-is_group
unfolding measure_reached
returns-else-not-is_group c = goes _ c.in_ok-take_step.ensures
    (holding _ (taken _ _ _ (sym c.is_group.ensures ∙ c.if-not-is_group.false) (given tt)))
