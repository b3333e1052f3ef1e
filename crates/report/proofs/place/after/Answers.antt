-- `report::place::after` meets its contract: a linefeed, or another byte.
-- Assumes nothing.
use Rattle.report.proofs.Placing.{after_linefeed, after_other}
use Rattle.report.proofs.place.after.Goals as goal

pub returns-then-b-eq10 : goal.returns-then-b-eq10
returns-then-b-eq10 c = after_linefeed _ _ c.if-b-eq10.true

pub returns : goal.returns
returns c = after_other _ _ c.if-b-eq10.false
