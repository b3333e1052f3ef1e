use Rattle.loops.proofs.MarkLaws.{is_within, is_beyond}
use Rattle.loops.proofs.looking.within.Goals as goal

pub returns-then-d-grants : goal.returns-then-d-grants
returns-then-d-grants c = search is_within

pub returns : goal.returns
returns c = search is_beyond
