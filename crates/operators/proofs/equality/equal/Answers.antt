use Rattle.machine.proofs.Acts.{goes_in, stops_in, in_both, given}
use Rattle.operators.proofs.EqualityLaws.{tells}
use Rattle.operators.proofs.equality.equal.Goals as goal

pub returns-in_err-same : goal.returns-in_err-same
returns-in_err-same c = tells _ _ _ _ _ _ _ _ (stops_in _ c.in_err-same.ensures c.from_residual.ensures.1)

pub returns : goal.returns
returns c = tells _ _ _ _ _ _ _ _ (goes_in _ c.in_ok-same.ensures (in_both (given _) _))
