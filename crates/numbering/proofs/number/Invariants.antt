use Rattle.numbering.proofs.Turns.{Numbering}
use Rattle.numbering.proofs.number.Given as goal

abbrev pub invariant-loop-slot : goal.invariant-loop-slot
invariant-loop-slot l = Numbering l.main l.n l.initial.code l.initial.table l.code l.table l.found l.slot
