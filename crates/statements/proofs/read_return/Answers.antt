-- `statements::read_return` meets its contract: an expression behind return.
-- Assumes nothing.
use native.Mathlib.Omega.{arith}
use Rattle.expressions.proofs.Answers.{says_code, exits}
use Rattle.statements.proofs.Paid.{ended_paid}
use Rattle.statements.proofs.Written.{heads}
use Rattle.statements.proofs.Moves.{parts_code, returning_after, first_laid}
use Rattle.statements.proofs.read_return.Goals as goal

pub returns-in_err-e : goal.returns-in_err-e
returns-in_err-e c = exits (says_code _ _) (says_code _ _) _ _ _ _ _ (returning_after _ _ _) c.from_residual.ensures.1 c.in_err-e.ensures

pub head-requires : goal.head-requires
head-requires c =
    let o = c.requires.space in
    parts_code _ _ _ _ _ _ _ _ _ _ c.in_ok-e.ensures (ended_paid _ _ _) (omega arith) (omega (arith, o.behind)) o.few (omega arith) (omega arith)

pub returns : goal.returns
returns c = heads _ _ _ _ _ _ _ _ _ _ _ _ _ (first_laid _ _ _ _ c.requires.space c.requires.i_in_bounds) (returning_after _ _ _) c.in_ok-e.ensures c.head.ensures
