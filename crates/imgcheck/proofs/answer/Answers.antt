-- `imgcheck::answer` meets its contract: its slices are long enough, so 71 is not its answer.
-- Assumes nothing.
use Rattle.imgcheck.proofs.Reporting.{checked_answer, one_call_granted}
use Rattle.imgcheck.proofs.answer.Goals as goal

pub returns : goal.returns
returns c = checked_answer _ _ _ _ _ _ _ one_call_granted c.check.ensures
