use Rattle.frames.proofs.CallLaws.{calls_long, resumed}
use Rattle.frames.proofs.calls.resume.Goals as goal

pub drop_to-requires : goal.drop_to-requires
drop_to-requires c = search calls_long

pub returns : goal.returns
returns c = search resumed
