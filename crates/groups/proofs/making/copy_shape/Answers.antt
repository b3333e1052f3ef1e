use mathlib.Core.Path.{sym, ◌∙◌}
use Rattle.machine.specs.Groups.{copy_shape}
use Rattle.groups.specs.Making.{copy_group, grouping}
use Rattle.machine.proofs.Acts.{holding, taken, other}
use Rattle.groups.proofs.making.copy_shape.Goals as goal

pub returns-then-is_group : goal.returns-then-is_group
unfolding copy_shape copy_group grouping
returns-then-is_group c = holding _ (taken _ _ _ (sym c.is_group.ensures ∙ c.if-is_group.true) c.copy_group.ensures)

pub returns : goal.returns
unfolding copy_shape
returns c = holding _ (other _ _ _ (sym c.is_group.ensures ∙ c.if-is_group.false) (rw c.figure_at.ensures at c.new_shape.ensures))
