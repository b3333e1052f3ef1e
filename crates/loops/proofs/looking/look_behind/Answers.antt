use Rattle.walks.proofs.TurnLaws.{room_same}
use Rattle.std.proofs.Common.{arith}
use Rattle.loops.proofs.MarkLaws.{climb_first, climb_room, climb_last, behind_found, behind_none, behind_next}
use Rattle.loops.proofs.looking.look_behind.Goals as goal

pub loop-turn-init : goal.loop-turn-init
loop-turn-init c = climb_first _ _ _ _ _ (omega arith)

pub look_after-found-requires : goal.look_after-found-requires
look_after-found-requires c = search climb_room

pub returns-then-found-ne0 : goal.returns-then-found-ne0
returns-then-found-ne0 c = behind_found _ _ _ _ _ _ _ c.loop-turn.invariant (omega arith) _ _ c.look_after-found.ensures c.if-found-ne0.true

pub next_marked-requires : goal.next_marked-requires
next_marked-requires c = room_same (climb_room _ _ _ _ _ _ _ c.loop-turn.invariant c.requires) c.look_after-found.auto.words

pub returns-in-None : goal.returns-in-None
returns-in-None c = behind_none _ _ _ _ _ _ _ c.loop-turn.invariant (omega arith) _ _ c.look_after-found.ensures c.if-found-ne0.false c.in-None.ensures

pub unmark-requires : goal.unmark-requires
unmark-requires c = room_same (climb_room _ _ _ _ _ _ _ c.loop-turn.invariant c.requires) c.look_after-found.auto.words

pub loop-turn-preserved : goal.loop-turn-preserved
loop-turn-preserved c = behind_next _ _ _ _ _ _ _ c.loop-turn.invariant (omega arith) _ _ c.look_after-found.ensures c.if-found-ne0.false
    _ c.in-Some.ensures _ c.unmark.ensures c.look_after-found.auto.words c.unmark.auto.words _ (omega arith)

pub returns : goal.returns
returns c = climb_last _ _ _ _ _ _ _ c.loop-turn.invariant (omega arith)
