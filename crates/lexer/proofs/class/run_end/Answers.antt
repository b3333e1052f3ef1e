-- `lexer::class::run_end` meets its contract: the invariant says that the run from the start ends where the run from i ends.
-- Assumes nothing.
use mathlib.Core.Path.{◌∙◌, sym}
use native.Mathlib.Omega.{arith}
use Rattle.lexer.proofs.Runs.{end_over, end_out, end_more}
use Rattle.lexer.proofs.class.run_end.Goals as goal

pub returns-then-c-least : goal.returns-then-c-least
returns-then-c-least c = sym (c.loop-i.invariant.1 ∙ end_out _ _ _ c.loop-i-test.true _ c.class_of-c.ensures c.then-c-least.either)

pub loop-i-preserved : goal.loop-i-preserved
loop-i-preserved c = (
  omega arith,
  c.loop-i.invariant.1 ∙ end_more _ _ _ c.loop-i-test.true (rw c.class_of-c.ensures at c.if-c-least.false)
      (rw c.class_of-c.ensures at c.if-c-gt-DIGIT.false),
)

pub returns : goal.returns
returns c = sym (c.loop-i.invariant.1 ∙ end_over _ _ _ c.loop-i-test.false ∙ omega arith)
