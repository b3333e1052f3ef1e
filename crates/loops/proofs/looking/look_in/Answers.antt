use Rattle.loops.proofs.MarkLaws.{in_starts, looked_in}
use Rattle.loops.proofs.looking.look_in.Goals as goal

pub look-requires : goal.look-requires
look-requires c = search in_starts

pub returns : goal.returns
returns c = search looked_in
