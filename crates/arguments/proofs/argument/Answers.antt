use Rattle.arguments.proofs.ArgumentLaws.{argument_is}
use Rattle.arguments.proofs.argument.Goals as goal

pub returns : goal.returns
returns c = search argument_is
