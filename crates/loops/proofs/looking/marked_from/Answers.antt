use Rattle.loops.proofs.MarkLaws.{seek_first, seek_last, seek_found, seek_next}
use Rattle.loops.proofs.looking.marked_from.Goals as goal

pub loop-k-init : goal.loop-k-init
loop-k-init c = search seek_first

pub returns-then-is_marked : goal.returns-then-is_marked
returns-then-is_marked c = search seek_found

pub loop-k-preserved : goal.loop-k-preserved
loop-k-preserved c = search seek_next

pub returns : goal.returns
returns c = search seek_last
