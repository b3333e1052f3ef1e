-- `definitions::enter` meets its contract: a slot past the table changes nothing.
-- Assumes nothing.
use Rattle.definitions.proofs.Table.{enter_out, enter_in}
use Rattle.definitions.proofs.enter.Goals as goal

pub returns-then-slot-gt-LAST_SLOT : goal.returns-then-slot-gt-LAST_SLOT
returns-then-slot-gt-LAST_SLOT c = enter_out _ _ _ _ c.home_at-slot.ensures c.if-slot-gt-LAST_SLOT.true

pub returns : goal.returns
returns c = enter_in _ _ _ _ c.home_at-slot.ensures c.if-slot-gt-LAST_SLOT.false
