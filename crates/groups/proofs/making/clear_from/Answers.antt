use native.Mathlib.Omega.{arith}
use Rattle.groups.proofs.MakingLaws.{cleared}
use Rattle.groups.proofs.making.clear_from.Goals as goal

pub returns : goal.returns
returns c = cleared _ _ _ _ _ _ c.requires (omega arith) (omega arith) (c.fill.ensures.after (λ y h. h))
