-- `statements::read_test` meets its contract: an expression in parentheses.
-- Assumes nothing.
use Rattle.expressions.proofs.Answers.{says, says_code, exits}
use Rattle.statements.proofs.Moves.{test_other, test_none, test_after, test_reads}
use Rattle.statements.proofs.read_test.Goals as goal

pub returns-then-kind_at-ne-OPEN : goal.returns-then-kind_at-ne-OPEN
returns-then-kind_at-ne-OPEN c = test_other _ _ _ _ c.kind_at.ensures _ _ c.if-kind_at-ne-OPEN.true

pub returns-then-left-eq0 : goal.returns-then-left-eq0
returns-then-left-eq0 c = test_none _ _ _ _ c.kind_at.ensures _ _ c.if-kind_at-ne-OPEN.false c.if-left-eq0.true

pub returns-in_err-e : goal.returns-in_err-e
returns-in_err-e c =
    exits (says _ _) (says_code _ _) _ _ _ _ _ (test_after _ _ _ _ c.kind_at.ensures c.if-kind_at-ne-OPEN.false c.if-left-eq0.false) c.from_residual.ensures.1 c.in_err-e.ensures

pub returns : goal.returns
returns c =
    test_reads _ _ _ _ c.kind_at.ensures c.if-kind_at-ne-OPEN.false c.if-left-eq0.false _ _ _ _ _ c.in_ok-e.ensures c.close.ensures
