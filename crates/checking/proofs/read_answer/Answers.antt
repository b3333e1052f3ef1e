-- `checking::read_answer` meets its contract: a program that is too long, one that was read, or a number and its place.
use Rattle.checking.proofs.Answered.{read_long, read_formed, read_malformed}
use Rattle.checking.proofs.read_answer.Goals as goal

pub returns-then-program-gt32768 : goal.returns-then-program-gt32768
returns-then-program-gt32768 c = read_long _ c.if-program-gt32768.true

pub returns-in-Ok : goal.returns-in-Ok
returns-in-Ok c = read_formed _ c.if-program-gt32768.false _ _ c.in-Ok.ensures.0

pub returns-in-Err : goal.returns-in-Err
returns-in-Err c = read_malformed _ c.if-program-gt32768.false _ _ c.in-Err.ensures.0
