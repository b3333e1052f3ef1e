use Rattle.numbering.proofs.Turns.{slot_none, slot_main, slot_other}
use Rattle.numbering.proofs.number_slot.Goals as goal

pub returns-then-d-eq0 : goal.returns-then-d-eq0
returns-then-d-eq0 c = search slot_none

pub returns-then-d-main : goal.returns-then-d-main
returns-then-d-main c = search slot_main

pub returns-else-d-main : goal.returns-else-d-main
returns-else-d-main c = search slot_other
