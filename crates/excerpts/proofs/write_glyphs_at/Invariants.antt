use Rattle.excerpts.proofs.Marking.{Showing}
use Rattle.excerpts.proofs.write_glyphs_at.Given as goal

abbrev pub invariant-loop-b : goal.invariant-loop-b
invariant-loop-b l = Showing l.marking l.bytes l.at l.initial.out l.out l.next l.b-index
