use lib.IntN.{pos}
use mir.Facts.{sfits_lit}
use Rattle.arithmetic.proofs.Held.{same_is}
use Rattle.arithmetic.proofs.is_zero.Goals as goal

pub returns : goal.returns
returns c = same_is _ (pos 0) c.ranges.a (sfits_lit tt)
