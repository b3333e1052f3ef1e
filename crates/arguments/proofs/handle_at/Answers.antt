use Rattle.arguments.proofs.ArgumentLaws.{handle_is}
use Rattle.arguments.proofs.handle_at.Goals as goal

pub returns : goal.returns
returns c = search handle_is
