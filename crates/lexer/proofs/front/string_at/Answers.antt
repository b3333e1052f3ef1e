-- `lexer::front::string_at` meets its contract: a letter behind the quote and a quote behind the run.
-- Assumes nothing.
use Prim.Native.Nat.{◌+◌}
use native.Mathlib.Omega.{arith}
use Rattle.lexer.proofs.Fronts.{end_fits, no_first, no_last, string_word}
use Rattle.lexer.proofs.front.string_at.Goals as goal

pub returns-then-c-ne-LETTER : goal.returns-then-c-ne-LETTER
returns-then-c-ne-LETTER c = no_first c.args.program.now c.args.at _ c.class_at-c.ensures c.if-c-ne-LETTER.true

pub returns-then-q-ne-QUOTE : goal.returns-then-q-ne-QUOTE
returns-then-q-ne-QUOTE c = no_last c.args.program.now c.args.at _ _ _
    c.class_at-c.ensures c.if-c-ne-LETTER.false c.run_end-e.ensures c.class_at-q.ensures c.if-q-ne-QUOTE.true

pub overflow_add-e : goal.overflow_add-e
overflow_add-e c = let f = end_fits c.args.program.now (c.args.at
    + 1) 2 _ (omega arith) c.run_end-e.ensures in omega arith

pub word_of-requires : goal.word_of-requires
word_of-requires c = let f = end_fits c.args.program.now (c.args.at
    + 1) 2 _ (omega arith) c.run_end-e.ensures in omega arith

pub returns : goal.returns
returns c = string_word c.args.program.now c.args.at _ _ _ _
    c.class_at-c.ensures c.if-c-ne-LETTER.false c.run_end-e.ensures
    c.class_at-q.ensures c.if-q-ne-QUOTE.false c.word_of.ensures
