use Rattle.arguments.proofs.ArgumentLaws.{shape_is}
use Rattle.arguments.proofs.shape_at.Goals as goal

pub returns : goal.returns
returns c = search shape_is
