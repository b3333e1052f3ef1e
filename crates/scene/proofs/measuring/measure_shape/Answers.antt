use mathlib.Core.Path.{sym, ◌∙◌}
use Rattle.walks.specs.Walks.{walking}
use Rattle.machine.specs.Show.{show, show_reached}
use Rattle.machine.proofs.Acts.{sure, holding, taken, other, given}
use Rattle.scene.specs.Measuring.{measure_reached, nothing_left}
use Rattle.scene.proofs.measuring.measure_shape.Goals as goal

pub returns-then-is_destroyed : goal.returns-then-is_destroyed
unfolding show
returns-then-is_destroyed c = holding _ (taken _ _ _ (sym c.is_destroyed.ensures ∙ c.if-is_destroyed.true) (given tt))

pub returns-then-is_group : goal.returns-then-is_group
unfolding show show_reached walking measure_reached nothing_left
returns-then-is_group c = holding _ (other _ _ _ (sym c.is_destroyed.ensures ∙ c.if-is_destroyed.false)
    (taken _ _ _ (sym c.is_group.ensures ∙ c.if-is_group.true) c.measure_within.ensures))

pub returns : goal.returns
unfolding show
returns c = holding _ (other _ _ _ (sym c.is_destroyed.ensures ∙ c.if-is_destroyed.false)
    (other _ _ _ (sym c.is_group.ensures ∙ c.if-is_group.false) (sure c.measure.ensures)))
