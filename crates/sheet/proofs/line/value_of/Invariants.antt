use Rattle.sheet.proofs.Digits.{Valued}
use Rattle.sheet.proofs.line.value_of.Given as goal

abbrev pub invariant-loop-d : goal.invariant-loop-d
invariant-loop-d l = Valued l.digits l.v l.d-index
