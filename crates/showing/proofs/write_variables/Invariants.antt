use Rattle.showing.proofs.WriteLaws.{Writing}
use Rattle.showing.proofs.write_variables.Given as goal

abbrev pub invariant-loop-drawn : goal.invariant-loop-drawn
invariant-loop-drawn l = Writing l.program l.texts l.grants l.initial.words l.n l.start l.initial.out l.words l.out l.drawn l.at
