-- `statements::read_ended` meets its contract: an expression and a semicolon.
-- Assumes nothing.
use Rattle.expressions.proofs.Answers.{says, says_code, exits}
use Rattle.statements.proofs.Moves.{ended_after}
use Rattle.statements.proofs.Written.{closed_reads}
use Rattle.statements.specs.Steps.{ended}
use Rattle.statements.proofs.read_ended.Goals as goal

pub returns-in_err-e : goal.returns-in_err-e
returns-in_err-e c = exits (says _ _) (says_code _ _) _ _ _ _ _ (ended_after _ _ _) c.from_residual.ensures.1 c.in_err-e.ensures

pub returns : goal.returns
unfolding ended
returns c = closed_reads _ _ _ _ _ _ _ _ c.in_ok-e.ensures c.close.ensures
