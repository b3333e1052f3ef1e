use Rattle.loops.proofs.MarkLaws.{behind_starts, looked_after}
use Rattle.loops.proofs.looking.look_after.Goals as goal

pub look-requires : goal.look-requires
look-requires c = search behind_starts

pub returns : goal.returns
returns c = search looked_after
