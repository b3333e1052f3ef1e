-- `texts::part_of` meets its contract: a start and a size that are clipped leave what `take` and `drop` leave.
use Rattle.std.proofs.lemmas.Grind.{common_steps}
use native.Mathlib.Omega.{arith}
use Rattle.machine.specs.Texts.{part}
use Rattle.texts.proofs.part_of.Goals as goal

pub returns : goal.returns
unfolding part
returns c = grind (arith, common_steps)
