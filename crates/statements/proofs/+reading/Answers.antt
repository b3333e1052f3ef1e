-- Statements, tests and groups with bodies, blocks and what stands in braces meet their contracts: each way is one law. The measures are the tokens left, then the rank.
-- Assumes nothing.
use native.Mathlib.Omega.{arith}
use Rattle.expressions.proofs.Answers.{says_code, exits}
use Rattle.statements.proofs.Paid.{statement_paid, each_paid, test_paid}
use Rattle.statements.proofs.Written.{heads}
use Rattle.statements.proofs.Moves.{parts_code, guarded_tests, tested_opens, parted, body_laid, body_after, block_none, block_after, block_laid, block_parts}
use Rattle.statements.proofs.Moves.{states_declaration, states_when, states_while, states_return, states_foreach, states_simple}
use Rattle.statements.proofs.Iterating.{iteration_each, iteration_opens}
use Rattle.statements.proofs.Going.{going_starts, going_fails, turned, going_on, going_ends}
use Rattle.statements.proofs.+reading.Goals as goal

-- ---- { .. }
pub read_block-returns-then-left-eq0 : goal.read_block-returns-then-left-eq0
read_block-returns-then-left-eq0 t c = block_none _ _ _ c.requires.i_value _ _ c.if-left-eq0.true

pub read_block-returns-in_err-e : goal.read_block-returns-in_err-e
read_block-returns-in_err-e t c =
    exits (says_code _ _) (says_code _ _) _ _ _ _ _ (block_after _ _ _ c.requires.i_value c.if-left-eq0.false) c.from_residual.ensures.1 c.in_err-e.ensures

pub read_block-head-requires : goal.read_block-head-requires
read_block-head-requires t c = block_parts _ _ _ _ _ _ _ c.requires.space c.in_ok-e.ensures

pub read_block-returns : goal.read_block-returns
read_block-returns t c =
    heads _ _ _ _ _ _ _ _ _ _ _ _ _ (block_laid c.args.left _ _ c.requires.i_value _ _ c.requires.space) (block_after _ _ _ c.requires.i_value c.if-left-eq0.false) c.in_ok-e.ensures
    c.head.ensures

-- ---- foreach
pub read_foreach-returns-in_err-e : goal.read_foreach-returns-in_err-e
read_foreach-returns-in_err-e t c = exits (says_code _ _) (says_code _ _) _ _ _ _ _ (iteration_each _ _ _) c.from_residual.ensures.1 c.in_err-e.ensures

pub read_foreach-overflow_sub-left : goal.read_foreach-overflow_sub-left
read_foreach-overflow_sub-left t c = omega (arith, iteration_opens _ _ _ _ _ _ _ c.in_ok-e.ensures)

pub read_foreach-read_statement-requires : goal.read_foreach-read_statement-requires
read_foreach-read_statement-requires t c =
    let p = parted _ _ _ _ _ _ c.requires.space _ c.in_ok-e.ensures (each_paid _ _ _) c.read_each.auto.words in
    (omega (arith, p.ahead, p.within), p.space)

pub read_foreach-returns-in_err-b : goal.read_foreach-returns-in_err-b
read_foreach-returns-in_err-b t c =
    exits (says_code _ _) (says_code _ _) _ _ _ _ _ (body_after _ _ _ _ _ _ c.requires.space _ c.in_ok-e.ensures (each_paid _ _ _) _ _ _ (iteration_each _ _ _))
    c.from_residual-in_err-b.ensures.1 c.in_err-b.ensures

pub read_foreach-overflow_sub-e : goal.read_foreach-overflow_sub-e
read_foreach-overflow_sub-e t c =
    omega (arith, (parted _ _ _ _ _ _ c.requires.space _ c.in_ok-e.ensures (each_paid _ _ _) c.read_each.auto.words).some)

pub read_foreach-overflow_sub-e-2 : goal.read_foreach-overflow_sub-e-2
read_foreach-overflow_sub-e-2 t c =
    omega (arith, (parted _ _ _ _ _ _ c.requires.space _ c.in_ok-e.ensures (each_paid _ _ _) c.read_each.auto.words).some)

pub read_foreach-head-requires : goal.read_foreach-head-requires
read_foreach-head-requires t c =
    let o = c.requires.space in
    let p = parted _ _ _ _ _ _ o _ c.in_ok-e.ensures (each_paid _ _ _) c.read_each.auto.words in
    parts_code _ _ _ _ _ _ _ _ _ _ c.in_ok-b.ensures (statement_paid _ _ _) (omega (arith, p.some)) (omega (arith, p.space.behind)) o.few (omega arith) p.small

pub read_foreach-returns : goal.read_foreach-returns
read_foreach-returns t c =
    let o = c.requires.space in
    heads _ _ _ _ _ _ _ _ _ _ _ _ _ (body_laid _ _ _ _ _ _ o _ c.in_ok-e.ensures (each_paid _ _ _))
    (body_after _ _ _ _ _ _ o _ c.in_ok-e.ensures (each_paid _ _ _) _ _ _ (iteration_each _ _ _)) c.in_ok-b.ensures c.head.ensures

-- ---- if and while
pub read_guarded-returns-in_err-e : goal.read_guarded-returns-in_err-e
read_guarded-returns-in_err-e t c = exits (says_code _ _) (says_code _ _) _ _ _ _ _ (guarded_tests _ _ _ _ _) c.from_residual.ensures.1 c.in_err-e.ensures

pub read_guarded-overflow_sub-left : goal.read_guarded-overflow_sub-left
read_guarded-overflow_sub-left t c = omega (arith, tested_opens _ _ _ _ _ _ _ c.in_ok-e.ensures)

pub read_guarded-read_statement-requires : goal.read_guarded-read_statement-requires
read_guarded-read_statement-requires t c =
    let p = parted _ _ _ _ _ _ c.requires.space _ c.in_ok-e.ensures (test_paid _ _ _) c.read_test.auto.words in
    (omega (arith, p.ahead, p.within), p.space)

pub read_guarded-returns-in_err-s : goal.read_guarded-returns-in_err-s
read_guarded-returns-in_err-s t c =
    exits (says_code _ _) (says_code _ _) _ _ _ _ _ (body_after _ _ _ _ _ _ c.requires.space _ c.in_ok-e.ensures (test_paid _ _ _) _ _ _ (guarded_tests _ _ _ _ _))
    c.from_residual-in_err-s.ensures.1 c.in_err-s.ensures

pub read_guarded-overflow_sub-e : goal.read_guarded-overflow_sub-e
read_guarded-overflow_sub-e t c =
    omega (arith, (parted _ _ _ _ _ _ c.requires.space _ c.in_ok-e.ensures (test_paid _ _ _) c.read_test.auto.words).some)

pub read_guarded-overflow_sub-e-2 : goal.read_guarded-overflow_sub-e-2
read_guarded-overflow_sub-e-2 t c =
    omega (arith, (parted _ _ _ _ _ _ c.requires.space _ c.in_ok-e.ensures (test_paid _ _ _) c.read_test.auto.words).some)

pub read_guarded-head-requires : goal.read_guarded-head-requires
read_guarded-head-requires t c =
    let o = c.requires.space in
    let p = parted _ _ _ _ _ _ o _ c.in_ok-e.ensures (test_paid _ _ _) c.read_test.auto.words in
    parts_code _ _ _ _ _ _ _ _ _ _ c.in_ok-s.ensures (statement_paid _ _ _) (omega (arith, p.some)) (omega (arith, p.space.behind)) o.few c.requires.i_in_bounds.1 p.small

pub read_guarded-returns : goal.read_guarded-returns
read_guarded-returns t c =
    let o = c.requires.space in
    heads _ _ _ _ _ _ _ _ _ _ _ _ _ (body_laid _ _ _ _ _ _ o _ c.in_ok-e.ensures (test_paid _ _ _))
    (body_after _ _ _ _ _ _ o _ c.in_ok-e.ensures (test_paid _ _ _) _ _ _ (guarded_tests _ _ _ _ _)) c.in_ok-s.ensures c.head.ensures

-- ---- statements by their first token
pub read_statement-returns-in-5 : goal.read_statement-returns-in-5
read_statement-returns-in-5 t c = states_declaration _ _ _ _ _ _ _ _ c.kind_at-kind.ensures c.in-5.is c.read_declaration.ensures

pub read_statement-returns-in-6 : goal.read_statement-returns-in-6
read_statement-returns-in-6 t c = states_when _ _ _ _ _ _ _ _ c.kind_at-kind.ensures c.in-6.is c.read_guarded.ensures

pub read_statement-returns-in-7 : goal.read_statement-returns-in-7
read_statement-returns-in-7 t c = states_while _ _ _ _ _ _ _ _ c.kind_at-kind.ensures c.in-7.is c.read_guarded-in-7.ensures

pub read_statement-returns-in-8 : goal.read_statement-returns-in-8
read_statement-returns-in-8 t c = states_return _ _ _ _ _ _ _ _ c.kind_at-kind.ensures c.in-8.is c.read_return.ensures

pub read_statement-returns-in-12 : goal.read_statement-returns-in-12
read_statement-returns-in-12 t c = states_foreach _ _ _ _ _ _ _ _ c.kind_at-kind.ensures c.in-12.is c.read_foreach.ensures

pub read_statement-returns-in_default : goal.read_statement-returns-in_default
read_statement-returns-in_default t c = search states_simple

-- ---- one statement or more
pub read_statements-loop-e-init : goal.read_statements-loop-e-init
read_statements-loop-e-init t c = going_starts _ _ _ _ _ c.requires

pub read_statements-returns-in_err-e : goal.read_statements-returns-in_err-e
read_statements-returns-in_err-e t c = going_fails _ _ _ _ _ _ _ _ c.loop-e.invariant _ _ _ c.from_residual.ensures.1 c.in_err-e.ensures

pub read_statements-returns-then-kind_at-eq-CLOSE_BRACE : goal.read_statements-returns-then-kind_at-eq-CLOSE_BRACE
read_statements-returns-then-kind_at-eq-CLOSE_BRACE t c =
    going_ends _ _ _ _ _ _ _ _ c.loop-e.invariant _ _ c.in_ok-e.ensures c.read_statement.auto.words _ c.kind_at.ensures c.if-kind_at-eq-CLOSE_BRACE.true

pub read_statements-loop-e-smaller : goal.read_statements-loop-e-smaller
read_statements-loop-e-smaller t c =
    let x = turned _ _ _ _ _ _ _ _ c.loop-e.invariant _ _ c.in_ok-e.ensures c.read_statement.auto.words in
    omega (arith, x.ahead, x.within)

pub read_statements-loop-e-preserved : goal.read_statements-loop-e-preserved
read_statements-loop-e-preserved t c =
    going_on _ _ _ _ _ _ _ _ c.loop-e.invariant _ _ c.in_ok-e.ensures c.read_statement.auto.words _ c.kind_at.ensures c.if-kind_at-eq-CLOSE_BRACE.false
