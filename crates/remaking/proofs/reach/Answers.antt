use mathlib.Core.Path.{sym, ◌∙◌}
use mir.Facts.{to_z-of_z}
use Rattle.machine.specs.Groups.{remake_reached}
use Rattle.machine.proofs.Acts.{goes, stops, holding, taken, other, given}
use Rattle.walks.proofs.TurnLaws.{room_same}
use Rattle.remaking.specs.Remaking.{renewed, remake_reached_by}
use Rattle.remaking.proofs.reach.Goals as goal

pub returns-in_err-take_step : goal.returns-in_err-take_step
unfolding remake_reached_by remake_reached
returns-in_err-take_step c = stops _ c.in_err-take_step.ensures c.from_residual.ensures.1

pub returns-then-is_group : goal.returns-then-is_group
unfolding remake_reached_by remake_reached
returns-then-is_group c = goes _ c.in_ok-take_step.ensures
    (holding _ (taken _ _ _ (sym c.is_group.ensures ∙ c.if-is_group.true) (given tt)))

pub renew-requires : goal.renew-requires
renew-requires c = (room_same c.requires.0 c.take_step.auto.words, rw (to_z-of_z c.ranges.by) c.requires.1)

pub returns : goal.returns
unfolding remake_reached_by remake_reached renewed
returns c = goes _ c.in_ok-take_step.ensures
    (holding _ (other _ _ _ (sym c.is_group.ensures ∙ c.if-is_group.false) (rw (to_z-of_z c.ranges.by) at c.renew.ensures)))
