use Rattle.numerals.proofs.Spans.{Spanning}
use Rattle.excerpts.specs.Excerpts.{in_line}
use Rattle.excerpts.proofs.line_rest.Given as goal

abbrev pub invariant-loop-i : goal.invariant-loop-i
invariant-loop-i l = Spanning in_line l.program l.place l.i
