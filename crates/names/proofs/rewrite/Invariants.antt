use Rattle.names.proofs.Rewriting.{Rewriting}
use Rattle.names.proofs.rewrite.Given as goal

abbrev pub invariant-loop-i : goal.invariant-loop-i
invariant-loop-i l = Rewriting l.program l.initial.tokens l.index l.tokens l.i
