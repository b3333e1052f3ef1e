use mathlib.Core.Path.{refl}
use mir.Facts.{to_z-of_z}
use Rattle.machine.specs.Groups.{remake_group}
use Rattle.walks.specs.Walks.{walking}
use Rattle.machine.proofs.Acts.{goes, stops, stored, given}
use Rattle.remaking.specs.Remaking.{remake_reached_by}
use Rattle.remaking.proofs.RemakingLaws.{room_put}
use Rattle.remaking.proofs.remake_group.Goals as goal

pub remake_within-requires : goal.remake_within-requires
remake_within-requires c = (room_put _ _ _ _ _ refl c.requires.0, rw (to_z-of_z c.ranges.by) c.requires.1)

pub returns-in_err-remake_within : goal.returns-in_err-remake_within
unfolding remake_group walking remake_reached_by
returns-in_err-remake_within c = goes _ (stored _ _) (stops _ (rw (to_z-of_z c.ranges.by) at c.in_err-remake_within.ensures) c.from_residual.ensures.1)

pub gather-requires : goal.gather-requires
gather-requires c = room_put _ _ _ _ _ c.remake_within.auto.words c.requires.0

pub returns-in_err-j : goal.returns-in_err-j
unfolding remake_group walking remake_reached_by
returns-in_err-j c = goes _ (stored _ _) (goes _ (rw (to_z-of_z c.ranges.by) at c.in_ok-remake_within.ensures) (stops _ c.in_err-j.ensures c.from_residual-in_err-j.ensures.1))

pub returns : goal.returns
unfolding remake_group walking remake_reached_by
returns c = goes _ (stored _ _) (goes _ (rw (to_z-of_z c.ranges.by) at c.in_ok-remake_within.ensures) (goes _ c.in_ok-j.ensures (given _)))
