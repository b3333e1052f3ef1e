use native.Mathlib.Omega.{arith}
use mathlib.Core.Path.{refl}
use Rattle.machine.proofs.Acts.{goes_in, stops_in, in_both, given}
use Rattle.running.proofs.Ways.{body_by, body_starts}
use Rattle.running.proofs.run_body.Goals as goal

pub returns-in_err-enter : goal.returns-in_err-enter
returns-in_err-enter c = body_by _ _ _ _ _ _ c.ranges.width c.ranges.height _ _ c.start_of-a.ensures.0 c.frame_of.ensures.0 _ refl (stops_in _ (in_both c.in_err-enter.ensures _) c.from_residual.ensures.1)

pub body-requires : goal.body-requires
body-requires c = body_starts _ _ _ _ _ _ c.requires (omega arith) c.start_of-a.ensures.1 (omega (arith, c.body_of.ensures.1))

pub returns-in_err-body : goal.returns-in_err-body
returns-in_err-body c = body_by _ _ _ _ _ _ c.ranges.width c.ranges.height _ _ c.start_of-a.ensures.0 c.frame_of.ensures.0 _ c.body_of.ensures.0 (goes_in _ (in_both c.in_ok-enter.ensures _)
    (stops_in _ c.in_err-body.ensures c.from_residual-in_err-body.ensures.1))

pub returns : goal.returns
returns c = body_by _ _ _ _ _ _ c.ranges.width c.ranges.height _ _ c.start_of-a.ensures.0 c.frame_of.ensures.0 _ c.body_of.ensures.0 (goes_in _ (in_both c.in_ok-enter.ensures _) (goes_in _ c.in_ok-body.ensures (in_both (given _) _)))
