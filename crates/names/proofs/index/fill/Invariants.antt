use Rattle.names.proofs.Noting.{Filling}
use Rattle.names.proofs.index.fill.Given as goal

abbrev pub invariant-loop-i : goal.invariant-loop-i
invariant-loop-i l = Filling l.program l.tokens l.initial.index l.index l.i
