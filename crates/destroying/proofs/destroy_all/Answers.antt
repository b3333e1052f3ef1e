use mathlib.Core.Path.{sym, ◌∙◌}
use Rattle.walks.specs.Walks.{walking}
use Rattle.machine.specs.Groups.{destroy_all}
use Rattle.machine.proofs.Acts.{goes, sure, holding, taken, other, given}
use Rattle.destroying.specs.Destroying.{destroy_reached, destroy_left}
use Rattle.destroying.proofs.destroy_all.Goals as goal

pub returns-then-not-is_group : goal.returns-then-not-is_group
unfolding destroy_all
returns-then-not-is_group c = goes _ (sure c.destroy.ensures) (holding _ (other _ _ _ (sym c.is_group.ensures ∙ c.if-not-is_group.true) (given tt)))

pub returns : goal.returns
unfolding destroy_all walking destroy_reached destroy_left
returns c = goes _ (sure c.destroy.ensures) (holding _ (taken _ _ _ (sym c.is_group.ensures ∙ c.if-not-is_group.false) c.destroy_within.ensures))
