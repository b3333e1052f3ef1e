use Rattle.arguments.proofs.ArgumentLaws.{integer_is}
use Rattle.arguments.proofs.integer_at.Goals as goal

pub returns : goal.returns
returns c = search integer_is
