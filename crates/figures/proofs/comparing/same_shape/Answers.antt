use Rattle.figures.proofs.ComparingLaws.{same_shapes}
use Rattle.figures.proofs.comparing.same_shape.Goals as goal

pub returns : goal.returns
returns c = search same_shapes
