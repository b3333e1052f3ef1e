use Rattle.groups.proofs.MakingLaws.{Filling}
use Rattle.groups.proofs.making.fill.Given as goal

abbrev pub invariant-loop-left : goal.invariant-loop-left
invariant-loop-left l = Filling l.grants l.p l.stride l.unit l.place l.n l.initial.words l.words l.at l.left
