use Rattle.meaning.specs.Byte.{is_digit}
use Rattle.numerals.proofs.Spans.{Spanning}
use Rattle.sheet.proofs.line.digit_count.Given as goal

abbrev pub invariant-loop-i : goal.invariant-loop-i
invariant-loop-i l = Spanning is_digit l.s 0 l.i
