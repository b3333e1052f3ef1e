use mathlib.Core.Path.{refl}
use Rattle.machine.proofs.Acts.{last_in}
use Rattle.running.proofs.Ways.{still_room, main_stopped, main_left}
use Rattle.running.proofs.run_main.Goals as goal

pub leave-requires : goal.leave-requires
leave-requires c = search still_room

pub returns-in_err-run_body : goal.returns-in_err-run_body
returns-in_err-run_body c = last_in (main_stopped _ _ _ _ _ _ c.ranges.width c.ranges.height c.in_err-run_body.ensures refl) c.from_residual.ensures.1

pub returns : goal.returns
returns c = main_left _ _ _ _ _ _ c.ranges.width c.ranges.height c.in_ok-run_body.ensures refl c.leave.ensures
