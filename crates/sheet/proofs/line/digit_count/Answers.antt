-- `sheet::line::digit_count` meets its contract: the bytes before i are digits.
-- Assumes nothing.
use mathlib.Core.Path.{sym, ◌∙◌}
use native.Mathlib.Omega.{arith}
use Rattle.numerals.proofs.Spans.{span_more}
use Rattle.sheet.proofs.Digits.{count_stop, count_over}
use Rattle.sheet.proofs.line.digit_count.Goals as goal

pub returns-then-not-is_digit : goal.returns-then-not-is_digit
returns-then-not-is_digit c = count_stop _ _ c.loop-i.invariant c.loop-i-test.true (sym c.is_digit.ensures ∙ c.if-not-is_digit.true)

pub loop-i-preserved : goal.loop-i-preserved
loop-i-preserved c = span_more _ _ _ _ c.loop-i.invariant c.loop-i-test.true (sym c.is_digit.ensures ∙ c.if-not-is_digit.false)

pub returns : goal.returns
returns c = let all = count_over _ _ c.loop-i.invariant c.loop-i-test.false in omega arith
