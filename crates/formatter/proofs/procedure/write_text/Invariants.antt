use Rattle.formatter.proofs.Procedures.{Going}
use Rattle.formatter.proofs.procedure.write_text.Given as goal

abbrev pub invariant-loop-i : goal.invariant-loop-i
invariant-loop-i l = Going l.program l.tokens l.code l.initial.out l.out l.at l.i
