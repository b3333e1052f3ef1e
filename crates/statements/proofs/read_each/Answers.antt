-- `statements::read_each` meets its contract: whether a statement can begin is asked before whether a level is left.
-- Assumes nothing.
use Rattle.expressions.proofs.Answers.{says_code, exits}
use Rattle.statements.proofs.Iterating.{each_after, each_stops, each_none, each_reads}
use Rattle.statements.proofs.read_each.Goals as goal

pub returns-in_err-e : goal.returns-in_err-e
returns-in_err-e c = exits (says_code _ _) (says_code _ _) _ _ _ _ _ (each_after _ _ _) c.from_residual.ensures.1 c.in_err-e.ensures

pub returns-then-not-begins_statement : goal.returns-then-not-begins_statement
returns-then-not-begins_statement c = each_stops _ _ _ _ _ _ _ c.in_ok-e.ensures _ c.begins_statement.ensures c.if-not-begins_statement.true-raw

pub returns-then-left-eq0 : goal.returns-then-left-eq0
returns-then-left-eq0 c = each_none _ _ _ _ _ _ _ c.in_ok-e.ensures _ c.begins_statement.ensures c.if-not-begins_statement.false-raw c.if-left-eq0.true

pub returns : goal.returns
returns c = each_reads _ _ _ _ _ _ _ c.in_ok-e.ensures _ c.begins_statement.ensures c.if-not-begins_statement.false-raw c.if-left-eq0.false
