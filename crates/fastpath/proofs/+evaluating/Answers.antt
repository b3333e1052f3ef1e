use native.Mathlib.Omega.{arith}
use borrow.Author.Rules.{rules}
use Rattle.fastpath.proofs.Laws.{too_deep, is_leaf, is_operation, sizes_differ, left_fails, operates}
use Rattle.fastpath.proofs.+evaluating.Goals as goal

pub expression-returns-then-depth-eq0 : goal.expression-returns-then-depth-eq0
expression-returns-then-depth-eq0 t c = search too_deep

pub expression-returns-then-tag_of-lt-FIRST_OPERATOR : goal.expression-returns-then-tag_of-lt-FIRST_OPERATOR
expression-returns-then-tag_of-lt-FIRST_OPERATOR t c = search is_leaf

pub expression-operation-r-requires : goal.expression-operation-r-requires
expression-operation-r-requires t c = (omega arith, search rules)

pub expression-returns : goal.expression-returns
expression-returns t c = search is_operation

pub operation-returns-then-not-sizes_agree : goal.operation-returns-then-not-sizes_agree
operation-returns-then-not-sizes_agree t c = sizes_differ _ _ _ _ _ _ _ _ _ c.left_of-z.ensures c.right_of-y.ensures
    c.word_at-u.ensures c.word_at-v.ensures _ c.sizes_agree.ensures c.if-not-sizes_agree.true-raw

pub operation-expression-a-requires : goal.operation-expression-a-requires
operation-expression-a-requires t c = (omega arith, search rules)

pub operation-returns-then-a-ne-INTEGER : goal.operation-returns-then-a-ne-INTEGER
operation-returns-then-a-ne-INTEGER t c = left_fails _ _ _ _ _ _ _ _ _ c.left_of-z.ensures
    c.right_of-y.ensures c.word_at-u.ensures
    c.word_at-v.ensures _ c.sizes_agree.ensures _ c.if-not-sizes_agree.false-raw c.expression-a.ensures c.if-a-ne-INTEGER.true

pub operation-expression-b-requires : goal.operation-expression-b-requires
operation-expression-b-requires t c = (omega arith, search rules)

pub operation-returns : goal.operation-returns
operation-returns t c = operates _ _ _ _ _ _ _ _ _ c.left_of-z.ensures
    c.right_of-y.ensures c.word_at-u.ensures
    c.word_at-v.ensures _ c.sizes_agree.ensures _
    c.if-not-sizes_agree.false-raw c.expression-a.ensures _ _ _ c.expression-b.ensures c.tag_of.ensures
    c.word_on.ensures
