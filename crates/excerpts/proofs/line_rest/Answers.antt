-- `excerpts::line_rest` meets its contract: the bytes before i are the line's.
-- Assumes nothing.
use native.Mathlib.Omega.{arith}
use Rattle.numerals.proofs.Spans.{span_none, span_more, span_stop, span_over}
use Rattle.excerpts.proofs.Marking.{line_goes_on, line_ends}
use Rattle.excerpts.proofs.line_rest.Goals as goal

pub loop-i-init : goal.loop-i-init
loop-i-init c = span_none _ _ _ c.requires

pub returns-then-program-i-eq10 : goal.returns-then-program-i-eq10
returns-then-program-i-eq10 c = span_stop _ _ _ _ c.loop-i.invariant c.loop-i-test.true (line_ends _ c.if-program-i-eq10.true)

pub loop-i-preserved : goal.loop-i-preserved
loop-i-preserved c = span_more _ _ _ _ c.loop-i.invariant c.loop-i-test.true (line_goes_on _ c.if-program-i-eq10.false)

pub returns : goal.returns
returns c = let all = span_over _ _ _ _ c.loop-i.invariant c.loop-i-test.false in omega arith
