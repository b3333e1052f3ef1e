use native.Mathlib.Omega.{arith}
use Rattle.machine.specs.Groups.{group_waiting}
use Rattle.machine.proofs.Acts.{goes, stops, loading, stored, given}
use Rattle.groups.proofs.WaitingLaws.{waiting_sources}
use Rattle.groups.proofs.waiting.gather.Goals as goal

pub make_group-requires : goal.make_group-requires
make_group-requires c = waiting_sources _ _ _ _ c.requires (omega arith) c.place_of-at.ensures

pub returns-in_err-j : goal.returns-in_err-j
unfolding group_waiting
returns-in_err-j c = loading _ _ (stops _ (rw (c.saturating_sub-n.ensures, c.place_of-at.ensures) at c.in_err-j.ensures) c.from_residual.ensures.1)

pub returns : goal.returns
unfolding group_waiting
returns c = loading _ _ (goes _ (rw (c.saturating_sub-n.ensures, c.place_of-at.ensures) at c.in_ok-j.ensures) (goes _ (stored _ _) (given _)))
