-- `promises::check_by_c`: what `img_check` promises and tells is a call that has returned.
use Rattle.promises.proofs.Calls.{checked_by_c}
use Rattle.promises.proofs.check_by_c.Goals as goal

pub returns : goal.returns
returns c = search checked_by_c
