use Rattle.spellings.proofs.Names.{Naming}
use Rattle.spellings.proofs.listing.write_names.Given as goal

abbrev pub invariant-loop-i : goal.invariant-loop-i
invariant-loop-i l = Naming l.program l.tokens l.slots l.at l.initial.out l.out l.next l.i
