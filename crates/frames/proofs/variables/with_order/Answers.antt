use mathlib.Core.Path.{refl}
use Rattle.machine.specs.Variables.{with_order}
use Rattle.frames.proofs.variables.with_order.Goals as goal

pub returns : goal.returns
unfolding with_order
returns c = refl
