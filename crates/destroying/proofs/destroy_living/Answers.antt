use mathlib.Core.Path.{sym, ◌∙◌}
use Rattle.machine.specs.Groups.{destroy_living}
use Rattle.machine.proofs.Acts.{holding, taken, other, given}
use Rattle.destroying.proofs.destroy_living.Goals as goal

pub returns-then-is_destroyed : goal.returns-then-is_destroyed
unfolding destroy_living
returns-then-is_destroyed c = holding _ (taken _ _ _ (sym c.is_destroyed.ensures ∙ c.if-is_destroyed.true) (given tt))

pub returns : goal.returns
unfolding destroy_living
returns c = holding _ (other _ _ _ (sym c.is_destroyed.ensures ∙ c.if-is_destroyed.false) c.destroy_all.ensures)
