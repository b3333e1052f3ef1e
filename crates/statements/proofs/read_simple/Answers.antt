-- `statements::read_simple` meets its contract: an expression or an assignment.
-- Assumes nothing.
use mathlib.Core.Path.{refl}
use native.Mathlib.Omega.{arith}
use Rattle.expressions.proofs.Answers.{says, says_code, exits}
use Rattle.statements.proofs.Paid.{ended_paid}
use Rattle.statements.proofs.Written.{heads}
use Rattle.statements.proofs.Moves.{parts_code, parts_closed, sided, sided_room, simple_after, acts_laid, acts_after, acts_close, assigns_laid, assigns_after, updates_laid, updates_after}
use Rattle.statements.proofs.Moves.{simple_refuses}
use Rattle.statements.proofs.read_simple.Goals as goal

pub returns-in_err-a : goal.returns-in_err-a
returns-in_err-a c = exits (says _ _) (says_code _ _) _ _ _ _ _ (simple_after _ _ _) c.from_residual.ensures.1 c.in_err-a.ensures

-- ---- e;
pub returns-in_err-e : goal.returns-in_err-e
returns-in_err-e c =
    exits (says_code _ _) (says_code _ _) _ _ _ _ _ (acts_after _ _ _ _ _ _ c.requires _ c.in_ok-a.ensures _ c.kind_at.ensures c.if-kind_at-ne-ASSIGN.true)
    c.from_residual-in_err-e.ensures.1 (acts_close _ _ _ _ _ _ c.requires _ c.in_ok-a.ensures _ c.in_err-e.ensures)

pub head-requires : goal.head-requires
head-requires c =
    let o = c.requires in
    let p = sided _ _ _ _ _ _ o _ c.in_ok-a.ensures in
    parts_closed _ _ _ _ _ _ _ c.in_ok-e.ensures (omega (arith, p.some)) (omega (arith, p.paid, p.within, o.few)) (omega arith) (omega arith)

pub returns-then-kind_at-ne-ASSIGN : goal.returns-then-kind_at-ne-ASSIGN
returns-then-kind_at-ne-ASSIGN c =
    heads _ _ _ _ _ _ _ _ _ _ _ _ _ (acts_laid _ _ _ _ _ _ c.requires _ c.in_ok-a.ensures)
    (acts_after _ _ _ _ _ _ c.requires _ c.in_ok-a.ensures _ c.kind_at.ensures c.if-kind_at-ne-ASSIGN.true)
    (acts_close _ _ _ _ _ _ c.requires _ c.in_ok-a.ensures _ c.in_ok-e.ensures) c.head.ensures

-- ---- a name's assignment
pub read_ended-requires : goal.read_ended-requires
read_ended-requires c =
    let o = c.requires in
    let p = sided _ _ _ _ _ _ o _ c.in_ok-a.ensures in
    sided_room _ _ _ _ _ _ _ _ o p c.read_expression.auto.words (omega (arith, p.some, p.paid))

pub returns-in_err-e-in-Name : goal.returns-in_err-e-in-Name
returns-in_err-e-in-Name c =
    exits (says_code _ _) (says_code _ _) _ _ _ _ _
    (assigns_after _ _ _ _ _ _ c.requires _ c.in_ok-a.ensures _ c.kind_at.ensures c.if-kind_at-ne-ASSIGN.false _ c.in-Name.is refl) c.from_residual-in_err-e-in-Name.ensures.1
    c.in_err-e-in-Name.ensures

pub head-requires-in-Name : goal.head-requires-in-Name
head-requires-in-Name c =
    let o = c.requires in
    let p = sided _ _ _ _ _ _ o _ c.in_ok-a.ensures in
    parts_code _ _ _ _ _ _ _ _ _ _ c.in_ok-e-in-Name.ensures (ended_paid _ _ _) (omega arith) (omega (arith, p.some, p.paid)) o.few (omega arith) (omega (arith, c.home_at-home.ensures))

pub returns-in_ok-e-in-Name : goal.returns-in_ok-e-in-Name
returns-in_ok-e-in-Name c =
    heads _ _ _ _ _ _ _ _ _ _ _ _ _ (assigns_laid _ _ _ _ _ _ c.requires _ c.in_ok-a.ensures)
    (assigns_after _ _ _ _ _ _ c.requires _ c.in_ok-a.ensures _ c.kind_at.ensures c.if-kind_at-ne-ASSIGN.false _ c.in-Name.is c.home_at-home.ensures) c.in_ok-e-in-Name.ensures
    c.head-in-Name.ensures

-- ---- an entry's
pub overflow_sub-a : goal.overflow_sub-a
overflow_sub-a c = omega (arith, (sided _ _ _ _ _ _ c.requires _ c.in_ok-a.ensures).some)

pub read_ended-requires-in-Entry : goal.read_ended-requires-in-Entry
read_ended-requires-in-Entry c =
    let o = c.requires in
    let p = sided _ _ _ _ _ _ o _ c.in_ok-a.ensures in
    sided_room _ _ _ _ _ _ _ _ o p c.read_expression.auto.words (omega (arith, p.some, p.paid))

pub returns-in_err-e-in-Entry : goal.returns-in_err-e-in-Entry
returns-in_err-e-in-Entry c =
    exits (says_code _ _) (says_code _ _) _ _ _ _ _
    (updates_after _ _ _ _ _ _ c.requires _ c.in_ok-a.ensures _ c.kind_at.ensures c.if-kind_at-ne-ASSIGN.false c.in-Entry.is) c.from_residual-in_err-e-in-Entry.ensures.1
    c.in_err-e-in-Entry.ensures

pub head-requires-in-Entry : goal.head-requires-in-Entry
head-requires-in-Entry c =
    let o = c.requires in
    let p = sided _ _ _ _ _ _ o _ c.in_ok-a.ensures in
    parts_code _ _ _ _ _ _ _ _ _ _ c.in_ok-e-in-Entry.ensures (ended_paid _ _ _) (omega (arith, p.some)) (omega (arith, p.some, p.paid)) o.few (omega arith) (omega arith)

pub returns-in_ok-e-in-Entry : goal.returns-in_ok-e-in-Entry
returns-in_ok-e-in-Entry c =
    heads _ _ _ _ _ _ _ _ _ _ _ _ _ (updates_laid _ _ _ _ _ _ c.requires _ c.in_ok-a.ensures)
    (updates_after _ _ _ _ _ _ c.requires _ c.in_ok-a.ensures _ c.kind_at.ensures c.if-kind_at-ne-ASSIGN.false c.in-Entry.is) c.in_ok-e-in-Entry.ensures c.head-in-Entry.ensures

pub returns-in-Neither : goal.returns-in-Neither
returns-in-Neither c =
    simple_refuses _ _ _ _ _ _ c.requires _ c.in_ok-a.ensures _ c.kind_at.ensures c.if-kind_at-ne-ASSIGN.false c.in-Neither.is
