-- Expressions, operands, primaries and arguments meet their contracts: each way is one law. The measures are the tokens left, and then the rank.
-- Assumes nothing.
use native.Mathlib.Omega.{arith}
use Rattle.expressions.proofs.Tokens.{operator_small}
use Rattle.expressions.proofs.Paid.{primary_paid, operand_paid}
use Rattle.expressions.proofs.Answers.{says, says_code, exits}
use Rattle.expressions.proofs.Steps.{closed_reads}
use Rattle.expressions.proofs.Rooms.{next, spare_both, call_spare, table_spare}
use Rattle.expressions.proofs.Moves.{expression_after, expression_one, second_after, expression_two, operand_after, operand_one, key_after, operand_two, reads_digits, reads_negative}
use Rattle.expressions.proofs.Moves.{reads_string, reads_none, reads_true, reads_false, reads_name, call_after, reads_call, paren_after, reads_paren, table_after, bracket_after, reads_table}
use Rattle.expressions.proofs.Moves.{reads_no_call, reads_no_paren, reads_no_table, reads_other}
use Rattle.expressions.proofs.Going.{arguments_none, going_starts, going_fails, turned, going_on, going_ends, going_stops}
use Rattle.expressions.proofs.+reading.Goals as goal

-- ---- arguments
pub read_arguments-returns-then-kind_at-eq-CLOSE : goal.read_arguments-returns-then-kind_at-eq-CLOSE
read_arguments-returns-then-kind_at-eq-CLOSE t c = arguments_none _ _ _ _ _ _ c.kind_at.ensures c.if-kind_at-eq-CLOSE.true

pub read_arguments-loop-e-init : goal.read_arguments-loop-e-init
read_arguments-loop-e-init t c = going_starts _ _ _ _ _ _ c.kind_at.ensures c.if-kind_at-eq-CLOSE.false c.ranges.i.fits c.requires

pub read_arguments-returns-in_err-e : goal.read_arguments-returns-in_err-e
read_arguments-returns-in_err-e t c = going_fails _ _ _ _ _ _ _ _ c.loop-e.invariant _ _ _ c.from_residual.ensures.1 c.in_err-e.ensures

pub read_arguments-overflow_sub-e : goal.read_arguments-overflow_sub-e
read_arguments-overflow_sub-e t c =
    omega (arith, turned _ _ _ _ _ _ _ _ c.loop-e.invariant _ _ c.in_ok-e.ensures c.read_expression.auto.words)

pub read_arguments-overflow_sub-e-in-loop-e : goal.read_arguments-overflow_sub-e-in-loop-e
read_arguments-overflow_sub-e-in-loop-e t c =
    omega (arith, turned _ _ _ _ _ _ _ _ c.loop-e.invariant _ _ c.in_ok-e.ensures c.read_expression.auto.words)

pub read_arguments-word_of-requires : goal.read_arguments-word_of-requires
read_arguments-word_of-requires t c =
    omega (arith, turned _ _ _ _ _ _ _ _ c.loop-e.invariant _ _ c.in_ok-e.ensures c.read_expression.auto.words)

pub read_arguments-returns-then-kind-eq-CLOSE : goal.read_arguments-returns-then-kind-eq-CLOSE
read_arguments-returns-then-kind-eq-CLOSE t c =
    going_ends _ _ _ _ _ _ _ _ c.loop-e.invariant _ _ c.in_ok-e.ensures c.read_expression.auto.words _ _ _ c.word_of.ensures c.put.ensures c.kind_at-kind.ensures
    c.if-kind-eq-CLOSE.true

pub read_arguments-returns-then-kind-ne-COMMA : goal.read_arguments-returns-then-kind-ne-COMMA
read_arguments-returns-then-kind-ne-COMMA t c =
    going_stops _ _ _ _ _ _ _ _ c.loop-e.invariant _ _ c.in_ok-e.ensures c.read_expression.auto.words _ _ _ c.word_of.ensures c.put.ensures c.kind_at-kind.ensures
    c.if-kind-eq-CLOSE.false c.if-kind-ne-COMMA.true

pub read_arguments-loop-e-smaller : goal.read_arguments-loop-e-smaller
read_arguments-loop-e-smaller t c =
    omega (arith, turned _ _ _ _ _ _ _ _ c.loop-e.invariant _ _ c.in_ok-e.ensures c.read_expression.auto.words)

pub read_arguments-loop-e-preserved : goal.read_arguments-loop-e-preserved
read_arguments-loop-e-preserved t c =
    going_on _ _ _ _ _ _ _ _ c.loop-e.invariant _ _ c.in_ok-e.ensures c.read_expression.auto.words _ _ _ c.word_of.ensures c.put.ensures c.kind_at-kind.ensures
    c.if-kind-ne-COMMA.false

-- ---- expressions
pub read_expression-returns-in_err-a : goal.read_expression-returns-in_err-a
read_expression-returns-in_err-a t c = exits (says _ _) (says _ _) _ _ _ _ _ (expression_after _ _ _) c.from_residual.ensures.1 c.in_err-a.ensures

pub read_expression-returns-in_default : goal.read_expression-returns-in_default
read_expression-returns-in_default t c = expression_one _ _ _ _ _ _ _ c.in_ok-a.ensures _ c.kind_at.ensures c.in_default.ensures

pub read_expression-overflow_add-a : goal.read_expression-overflow_add-a
read_expression-overflow_add-a t c =
    let o = c.requires in
    omega (arith, (next _ _ _ _ _ _ _ (operand_paid _ _ _) o c.read_operand.auto.words c.in_ok-a.ensures).within, o.short)

pub read_expression-read_operand-requires-2 : goal.read_expression-read_operand-requires-2
read_expression-read_operand-requires-2 t c =
    let x = next _ _ _ _ _ _ _ (operand_paid _ _ _) c.requires c.read_operand.auto.words c.in_ok-a.ensures in
    (omega (arith, x.ahead, x.within), x.room)

pub read_expression-returns-in_err-b : goal.read_expression-returns-in_err-b
read_expression-returns-in_err-b t c =
    exits (says _ _) (says _ _) _ _ _ _ _ (second_after _ _ _ _ _ _ _ c.in_ok-a.ensures _ c.kind_at.ensures _ c.in-Some.ensures) c.from_residual-in_err-b.ensures.1 c.in_err-b.ensures

pub read_expression-join-requires : goal.read_expression-join-requires
read_expression-join-requires t c =
    spare_both _ _ _ _ _ _ _ (operand_paid _ _ _) c.requires c.read_operand.auto.words c.in_ok-a.ensures _ _ _ _ (operand_paid _ _ _) (operator_small _ _ c.in-Some.ensures)
    c.read_operand-2.auto.words c.in_ok-b.ensures

pub read_expression-returns : goal.read_expression-returns
read_expression-returns t c =
    expression_two _ _ _ _ _ _ _ c.in_ok-a.ensures _ c.kind_at.ensures _ c.in-Some.ensures _ _ _ _ c.in_ok-b.ensures c.join.ensures

-- ---- operands
pub read_operand-returns-in_err-a : goal.read_operand-returns-in_err-a
read_operand-returns-in_err-a t c = exits (says _ _) (says _ _) _ _ _ _ _ (operand_after _ _ _) c.from_residual.ensures.1 c.in_err-a.ensures

pub read_operand-returns-then-kind_at-ne-DOT : goal.read_operand-returns-then-kind_at-ne-DOT
read_operand-returns-then-kind_at-ne-DOT t c = operand_one _ _ _ _ _ _ _ c.in_ok-a.ensures _ c.kind_at.ensures c.if-kind_at-ne-DOT.true

pub read_operand-read_primary-requires-2 : goal.read_operand-read_primary-requires-2
read_operand-read_primary-requires-2 t c =
    let x = next _ _ _ _ _ _ _ (primary_paid _ _ _) c.requires c.read_primary.auto.words c.in_ok-a.ensures in
    (omega (arith, x.ahead, x.within), x.room)

pub read_operand-returns-in_err-b : goal.read_operand-returns-in_err-b
read_operand-returns-in_err-b t c =
    exits (says _ _) (says _ _) _ _ _ _ _ (key_after _ _ _ _ _ _ _ c.in_ok-a.ensures _ c.kind_at.ensures c.if-kind_at-ne-DOT.false) c.from_residual-in_err-b.ensures.1
    c.in_err-b.ensures

pub read_operand-join-requires : goal.read_operand-join-requires
read_operand-join-requires t c =
    spare_both _ _ _ _ _ _ _ (primary_paid _ _ _) c.requires c.read_primary.auto.words c.in_ok-a.ensures _ _ _ _ (primary_paid _ _ _) (omega arith) c.read_primary-2.auto.words
    c.in_ok-b.ensures

pub read_operand-returns : goal.read_operand-returns
read_operand-returns t c = operand_two _ _ _ _ _ _ _ c.in_ok-a.ensures _ c.kind_at.ensures c.if-kind_at-ne-DOT.false _ _ _ _ c.in_ok-b.ensures c.join.ensures

-- ---- primaries
pub read_primary-returns-then-kind_at-ne-OPEN : goal.read_primary-returns-then-kind_at-ne-OPEN
read_primary-returns-then-kind_at-ne-OPEN t c =
    reads_name _ _ _ _ c.kind_at-kind.ensures _ _ _ _ _ _ c.in-1.is c.kind_at.ensures c.if-kind_at-ne-OPEN.true c.home_at-home.ensures c.put_leaf-then-kind_at-ne-OPEN.ensures

pub read_primary-returns-then-left-eq0 : goal.read_primary-returns-then-left-eq0
read_primary-returns-then-left-eq0 t c =
    reads_no_call _ _ _ _ c.kind_at-kind.ensures _ _ _ c.in-1.is c.kind_at.ensures c.if-kind_at-ne-OPEN.false c.if-left-eq0.true

pub read_primary-returns-in_err-es-in-1 : goal.read_primary-returns-in_err-es-in-1
read_primary-returns-in_err-es-in-1 t c =
    exits (says_code _ _) (says _ _) _ _ _ _ _
    (call_after _ _ _ _ c.kind_at-kind.ensures c.if-left-eq0.false _ c.in-1.is c.kind_at.ensures c.if-kind_at-ne-OPEN.false) c.from_residual.ensures.1 c.in_err-es-in-1.ensures

pub read_primary-finish-requires-clause-spare : goal.read_primary-finish-requires-clause-spare
read_primary-finish-requires-clause-spare t c = call_spare _ _ _ _ _ _ _ c.requires c.read_arguments.auto.words c.in_ok-es-in-1.ensures

pub read_primary-returns-then-left-eq0-2 : goal.read_primary-returns-then-left-eq0-2
read_primary-returns-then-left-eq0-2 t c = reads_no_paren _ _ _ _ c.kind_at-kind.ensures _ _ c.in-40.is c.if-left-eq0-2.true

pub read_primary-returns-in_err-e-in-40 : goal.read_primary-returns-in_err-e-in-40
read_primary-returns-in_err-e-in-40 t c =
    exits (says _ _) (says _ _) _ _ _ _ _ (paren_after _ _ _ _ c.kind_at-kind.ensures c.if-left-eq0-2.false c.in-40.is) c.from_residual-in_err-e-in-40.ensures.1 c.in_err-e-in-40.ensures

pub read_primary-returns-then-left-eq0-3 : goal.read_primary-returns-then-left-eq0-3
read_primary-returns-then-left-eq0-3 t c = reads_no_table _ _ _ _ c.kind_at-kind.ensures _ _ c.in-91.is c.if-left-eq0-3.true

pub read_primary-returns-in_err-e-in-91 : goal.read_primary-returns-in_err-e-in-91
read_primary-returns-in_err-e-in-91 t c =
    exits (says _ _) (says _ _) _ _ _ _ _ (table_after _ _ _ _ c.kind_at-kind.ensures c.if-left-eq0-3.false c.in-91.is) c.from_residual-in_err-e-in-91.ensures.1 c.in_err-e-in-91.ensures

pub read_primary-returns-in_err-b-in-91 : goal.read_primary-returns-in_err-b-in-91
read_primary-returns-in_err-b-in-91 t c =
    exits (says _ _) (says _ _) _ _ _ _ _ (bracket_after _ _ _ _ c.kind_at-kind.ensures c.if-left-eq0-3.false c.in-91.is) c.from_residual-in_err-b-in-91.ensures.1
    (closed_reads _ _ _ _ _ _ _ _ c.in_ok-e-in-91.ensures c.in_err-b-in-91.ensures)

pub read_primary-finish-requires-in-91-clause-spare : goal.read_primary-finish-requires-in-91-clause-spare
read_primary-finish-requires-in-91-clause-spare t c =
    table_spare _ _ _ _ _ _ _ _ c.requires c.read_expression-in-91.auto.words c.in_ok-e-in-91.ensures c.in_ok-b-in-91.ensures

pub read_primary-returns-in-2 : goal.read_primary-returns-in-2
read_primary-returns-in-2 t c = reads_digits _ _ _ _ c.kind_at-kind.ensures _ _ _ _ c.in-2.is c.read_digits.ensures

pub read_primary-returns-in-45 : goal.read_primary-returns-in-45
read_primary-returns-in-45 t c = reads_negative _ _ _ _ c.kind_at-kind.ensures _ _ _ _ c.in-45.is c.read_negative.ensures

pub read_primary-returns-in-3 : goal.read_primary-returns-in-3
read_primary-returns-in-3 t c = reads_string _ _ _ _ c.kind_at-kind.ensures _ _ _ _ _ c.in-3.is c.part_at.ensures c.put_leaf.ensures

pub read_primary-returns-in-9 : goal.read_primary-returns-in-9
read_primary-returns-in-9 t c = reads_none _ _ _ _ c.kind_at-kind.ensures _ _ _ _ c.in-9.is c.put_leaf-in-9.ensures

pub read_primary-returns-in-10 : goal.read_primary-returns-in-10
read_primary-returns-in-10 t c = reads_true _ _ _ _ c.kind_at-kind.ensures _ _ _ _ c.in-10.is c.put_leaf-in-10.ensures

pub read_primary-returns-in-11 : goal.read_primary-returns-in-11
read_primary-returns-in-11 t c = reads_false _ _ _ _ c.kind_at-kind.ensures _ _ _ _ c.in-11.is c.put_leaf-in-11.ensures

pub read_primary-returns-in_ok-es-in-1 : goal.read_primary-returns-in_ok-es-in-1
read_primary-returns-in_ok-es-in-1 t c =
    reads_call _ _ _ _ c.kind_at-kind.ensures c.if-left-eq0.false _ _ _ _ _ _ _ _ c.in-1.is c.kind_at.ensures c.if-kind_at-ne-OPEN.false c.in_ok-es-in-1.ensures c.callee_at.ensures
    c.finish.ensures

pub read_primary-returns-in_ok-e-in-40 : goal.read_primary-returns-in_ok-e-in-40
read_primary-returns-in_ok-e-in-40 t c =
    reads_paren _ _ _ _ c.kind_at-kind.ensures c.if-left-eq0-2.false _ _ _ _ _ c.in-40.is c.in_ok-e-in-40.ensures c.close.ensures

pub read_primary-returns-in_ok-b-in-91 : goal.read_primary-returns-in_ok-b-in-91
read_primary-returns-in_ok-b-in-91 t c =
    reads_table _ _ _ _ c.kind_at-kind.ensures c.if-left-eq0-3.false _ _ _ _ _ _ _ c.in-91.is c.in_ok-e-in-91.ensures c.in_ok-b-in-91.ensures c.finish-in-91.ensures

pub read_primary-returns-in_default : goal.read_primary-returns-in_default
read_primary-returns-in_default t c = search reads_other
