-- `checking::check` meets its contract: after 71 nothing was touched; otherwise the answer is that of `read_answer`, and both slices were cleared at the length they had.
use Rattle.checking.proofs.Answered.{check_refused, check_lent, check_read}
use Rattle.checking.proofs.check.Goals as goal

pub returns-then-not-can_read : goal.returns-then-not-can_read
returns-then-not-can_read c = search check_refused

pub read_answer-r-requires : goal.read_answer-r-requires
read_answer-r-requires c = search check_lent

pub returns : goal.returns
returns c = search check_read
