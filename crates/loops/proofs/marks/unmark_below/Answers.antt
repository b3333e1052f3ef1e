use Rattle.std.proofs.Common.{arith}
use Rattle.stores.proofs.Turns.{turns_first}
use Rattle.loops.proofs.MarkLaws.{unmark_more, all_unmarked, still_room}
use Rattle.loops.proofs.marks.unmark_below.Goals as goal

pub loop-k-init : goal.loop-k-init
loop-k-init c = turns_first _ 0 _ _ (omega arith)

pub clear_mark-requires : goal.clear_mark-requires
clear_mark-requires c = search still_room

pub loop-k-preserved : goal.loop-k-preserved
loop-k-preserved c = search unmark_more

pub returns : goal.returns
returns c = search all_unmarked
