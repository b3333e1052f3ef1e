-- `promises::check`: what `checking::check` promises is a call that has returned.
use Rattle.promises.proofs.Calls.{checked_so}
use Rattle.promises.proofs.check.Goals as goal

pub returns : goal.returns
returns c = search checked_so
