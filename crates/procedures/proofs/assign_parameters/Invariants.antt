use Rattle.procedures.proofs.Laws.{assigning_from}
use Rattle.stores.proofs.Turns.{Turns}
use Rattle.procedures.proofs.assign_parameters.Given as goal

abbrev pub invariant-loop-k : goal.invariant-loop-k
invariant-loop-k l = Turns (assigning_from l.grants l.base l.p) 0 l.n l.initial.words l.words l.k
