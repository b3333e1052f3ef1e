-- The functions on expressions meet their contracts; in each the measure is the fuel, and then which calls which, by the tag of the root.
-- Assumes nothing.
use native.Mathlib.Omega.{arith}
use Rattle.spellings.proofs.Chains.{then_two}
use Rattle.phrases.proofs.Expressions.{side_falls, inner_falls, operand_falls, primary_falls, entry_falls, enclosed_falls, table_falls, call_falls}
use Rattle.phrases.proofs.Expressions.{too_deep, one_operand, two_operands, one_primary, entry_too_deep, is_entry, entry_written}
use Rattle.phrases.proofs.Expressions.{enclosed, primary_too_deep, is_leaf, is_table, is_call, call_written}
use Rattle.phrases.proofs.Expressions.{no_argument, first_listed, list_first, list_next, list_ends, root_falls}
use Rattle.phrases.proofs.+writing.Goals as goal

pub write_arguments-returns-then-x-first : goal.write_arguments-returns-then-x-first
write_arguments-returns-then-x-first t c = search no_argument

pub write_arguments-loop-y-init : goal.write_arguments-loop-y-init
write_arguments-loop-y-init t c = list_first _ _ _ _ _ _ _ (omega arith) (omega arith) (omega (arith, c.if-x-first.false)) c.argument_at-y.ensures

pub write_arguments-loop-y-smaller : goal.write_arguments-loop-y-smaller
write_arguments-loop-y-smaller t c = search root_falls

pub write_arguments-loop-y-preserved : goal.write_arguments-loop-y-preserved
write_arguments-loop-y-preserved t c =
    list_next _ _ _ _ _ _ _
    c.loop-y.invariant
    _
    c.loop-y-test.true
    c.write_behind-next.ensures
    c.argument_at-y-in-loop-y.ensures

pub write_arguments-returns : goal.write_arguments-returns
write_arguments-returns t c =
    first_listed _ _ _ _ _ _ _
    (omega arith)
    (omega (arith, c.if-x-first.false))
    c.argument_at-y.ensures
    c.write_expression-next.ensures
    (list_ends _ _ _ _ _ _ _ c.loop-y.invariant (omega arith))

pub write_behind-returns : goal.write_behind-returns
write_behind-returns t c = search then_two

pub write_between-returns : goal.write_between-returns
write_between-returns t c = search then_two

pub write_call-returns : goal.write_call-returns
write_call-returns t c =
    call_written _ _ _ _ _ _ _ _ _
    (omega arith)
    c.first_argument.ensures
    c.argument_at-y.ensures
    c.callee_of.ensures.0
    c.write_name-open.ensures
    c.write_bytes_at-inside.ensures
    c.write_arguments-end.ensures
    c.write_bytes_at.ensures

pub write_entry-write_primary-dot-requires : goal.write_entry-write_primary-dot-requires
write_entry-write_primary-dot-requires t c = (search side_falls, tt)

pub write_entry-write_primary-requires : goal.write_entry-write_primary-requires
write_entry-write_primary-requires t c = (search side_falls, tt)

pub write_entry-returns : goal.write_entry-returns
write_entry-returns t c = search entry_written

pub write_expression-returns-then-fuel-eq0 : goal.write_expression-returns-then-fuel-eq0
write_expression-returns-then-fuel-eq0 t c = search too_deep

pub write_expression-write_operand-requires : goal.write_expression-write_operand-requires
write_expression-write_operand-requires t c = (search operand_falls, tt)

pub write_expression-returns-then-tag-lt-FIRST_OPERATOR : goal.write_expression-returns-then-tag-lt-FIRST_OPERATOR
write_expression-returns-then-tag-lt-FIRST_OPERATOR t c = search one_operand

pub write_expression-write_operand-sign-requires : goal.write_expression-write_operand-sign-requires
write_expression-write_operand-sign-requires t c = (search inner_falls, tt)

pub write_expression-write_operand-requires-2 : goal.write_expression-write_operand-requires-2
write_expression-write_operand-requires-2 t c = (search inner_falls, tt)

pub write_expression-returns : goal.write_expression-returns
write_expression-returns t c =
    two_operands _ _ _ _ _ _ _
    c.word_at-w.ensures
    c.tag_of-tag.ensures
    _ _
    (omega arith)
    c.if-fuel-eq0.false
    (omega (arith, c.if-tag-lt-FIRST_OPERATOR.false))
    c.left_of.ensures
    c.right_of.ensures
    c.write_operand-sign.ensures
    c.write_sign-next.ensures
    c.write_operand-2.ensures

pub write_operand-write_primary-requires : goal.write_operand-write_primary-requires
write_operand-write_primary-requires t c = (search primary_falls, tt)

pub write_operand-returns-then-tag_of-ne-ENTRY : goal.write_operand-returns-then-tag_of-ne-ENTRY
write_operand-returns-then-tag_of-ne-ENTRY t c = search one_primary

pub write_operand-returns-then-fuel-eq0 : goal.write_operand-returns-then-fuel-eq0
write_operand-returns-then-fuel-eq0 t c = search entry_too_deep

pub write_operand-write_entry-requires : goal.write_operand-write_entry-requires
write_operand-write_entry-requires t c = (search entry_falls, tt)

pub write_operand-returns : goal.write_operand-returns
write_operand-returns t c = search is_entry

pub write_primary-write_between-requires : goal.write_primary-write_between-requires
write_primary-write_between-requires t c = (search enclosed_falls, tt)

pub write_primary-returns-then-encloses : goal.write_primary-returns-then-encloses
write_primary-returns-then-encloses t c = search enclosed

pub write_primary-returns-then-fuel-eq0 : goal.write_primary-returns-then-fuel-eq0
write_primary-returns-then-fuel-eq0 t c = search primary_too_deep

pub write_primary-returns-then-tag-lt-TABLE : goal.write_primary-returns-then-tag-lt-TABLE
write_primary-returns-then-tag-lt-TABLE t c = search is_leaf

pub write_primary-write_between-requires-then-tag-eq-TABLE : goal.write_primary-write_between-requires-then-tag-eq-TABLE
write_primary-write_between-requires-then-tag-eq-TABLE t c = (search table_falls, tt)

pub write_primary-returns-then-tag-eq-TABLE : goal.write_primary-returns-then-tag-eq-TABLE
write_primary-returns-then-tag-eq-TABLE t c = search is_table

pub write_primary-write_call-requires : goal.write_primary-write_call-requires
write_primary-write_call-requires t c = (search call_falls, tt)

pub write_primary-returns : goal.write_primary-returns
write_primary-returns t c = search is_call
