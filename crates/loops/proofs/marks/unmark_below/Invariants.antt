use Rattle.stores.proofs.Turns.{Turns}
use Rattle.machine.specs.Loops.{unmark_from}
use Rattle.loops.proofs.marks.unmark_below.Given as goal

abbrev pub invariant-loop-k : goal.invariant-loop-k
invariant-loop-k l = Turns (unmark_from l.grants) 0 l.end l.initial.words l.words l.k
