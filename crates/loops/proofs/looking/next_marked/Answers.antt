use Rattle.loops.proofs.MarkLaws.{none_behind, one_behind}
use Rattle.loops.proofs.looking.next_marked.Goals as goal

pub returns-then-end-k : goal.returns-then-end-k
returns-then-end-k c = search none_behind

pub returns : goal.returns
returns c = search one_behind
