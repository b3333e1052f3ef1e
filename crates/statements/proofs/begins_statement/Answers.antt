-- `statements::begins_statement` meets its contract: an arm for each kind.
-- Assumes nothing.
use Rattle.statements.specs.Words.{begins_statement}
use Rattle.statements.proofs.Iterating.{begins_digits, begins_minus, begins_not}
use Rattle.statements.proofs.begins_statement.Goals as goal

pub returns-in-1 : goal.returns-in-1
unfolding begins_statement
returns-in-1 c = rw (← c.kind_at-kind.ensures, c.in-1.is)

pub returns-in-2 : goal.returns-in-2
returns-in-2 c = begins_digits _ _ _ c.kind_at-kind.ensures _ c.in-2.is c.payload_at.ensures

pub returns-in-3 : goal.returns-in-3
unfolding begins_statement
returns-in-3 c = rw (← c.kind_at-kind.ensures, c.in-3.is)

pub returns-in-5 : goal.returns-in-5
unfolding begins_statement
returns-in-5 c = rw (← c.kind_at-kind.ensures, c.in-5.is)

pub returns-in-6 : goal.returns-in-6
unfolding begins_statement
returns-in-6 c = rw (← c.kind_at-kind.ensures, c.in-6.is)

pub returns-in-7 : goal.returns-in-7
unfolding begins_statement
returns-in-7 c = rw (← c.kind_at-kind.ensures, c.in-7.is)

pub returns-in-8 : goal.returns-in-8
unfolding begins_statement
returns-in-8 c = rw (← c.kind_at-kind.ensures, c.in-8.is)

pub returns-in-9 : goal.returns-in-9
unfolding begins_statement
returns-in-9 c = rw (← c.kind_at-kind.ensures, c.in-9.is)

pub returns-in-10 : goal.returns-in-10
unfolding begins_statement
returns-in-10 c = rw (← c.kind_at-kind.ensures, c.in-10.is)

pub returns-in-11 : goal.returns-in-11
unfolding begins_statement
returns-in-11 c = rw (← c.kind_at-kind.ensures, c.in-11.is)

pub returns-in-12 : goal.returns-in-12
unfolding begins_statement
returns-in-12 c = rw (← c.kind_at-kind.ensures, c.in-12.is)

pub returns-in-40 : goal.returns-in-40
unfolding begins_statement
returns-in-40 c = rw (← c.kind_at-kind.ensures, c.in-40.is)

pub returns-in-45 : goal.returns-in-45
returns-in-45 c = begins_minus _ _ _ c.kind_at-kind.ensures _ c.in-45.is c.is_signed.ensures

pub returns-in-91 : goal.returns-in-91
unfolding begins_statement
returns-in-91 c = rw (← c.kind_at-kind.ensures, c.in-91.is)

pub returns-in-123 : goal.returns-in-123
unfolding begins_statement
returns-in-123 c = rw (← c.kind_at-kind.ensures, c.in-123.is)

pub returns-in_default : goal.returns-in_default
returns-in_default c =
    let n = c.in_default.in_default-own.rest in
    begins_not _ _ _ c.kind_at-kind.ensures n.0.0.0.0.0.0.0.0.0.0.0.0.0.0.1 n.0.0.0.0.0.0.0.0.0.0.0.0.0.1
    n.0.0.0.0.0.0.0.0.0.0.0.0.1 n.0.0.0.0.0.0.0.0.0.0.0.1 n.0.0.0.0.0.0.0.0.0.0.1 n.0.0.0.0.0.0.0.0.0.1
    n.0.0.0.0.0.0.0.0.1 n.0.0.0.0.0.0.0.1 n.0.0.0.0.0.0.1 n.0.0.0.0.0.1 n.0.0.0.0.1 n.0.0.0.1 n.0.0.1 n.0.1 n.1
