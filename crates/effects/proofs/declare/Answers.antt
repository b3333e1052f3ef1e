use Rattle.machine.proofs.Acts.{goes, stops, given}
use Rattle.machine.specs.Effects.{declaring}
use Rattle.machine.specs.declared.Flow.TheVariants.{Onward}
use Rattle.effects.proofs.declare.Goals as goal

pub returns-in_err-declare : goal.returns-in_err-declare
unfolding declaring
returns-in_err-declare c = stops _ c.in_err-declare.ensures c.from_residual.ensures.1

pub returns : goal.returns
unfolding declaring
returns c = goes _ c.in_ok-declare.ensures (given Onward)
