use Rattle.machine.proofs.Acts.{goes_in, stops_in, in_both, given}
use Rattle.operators.proofs.EqualityLaws.{denies}
use Rattle.operators.proofs.equality.unequal.Goals as goal

pub returns-in_err-same : goal.returns-in_err-same
returns-in_err-same c = denies _ _ _ _ _ _ _ _ (stops_in _ c.in_err-same.ensures c.from_residual.ensures.1)

pub returns : goal.returns
returns c = denies _ _ _ _ _ _ _ _ (goes_in _ c.in_ok-same.ensures (in_both (given _) _))
