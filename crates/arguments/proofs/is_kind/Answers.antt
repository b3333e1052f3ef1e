use Rattle.arguments.proofs.ArgumentLaws.{kind_is}
use Rattle.arguments.proofs.is_kind.Goals as goal

pub returns : goal.returns
returns c = search kind_is
