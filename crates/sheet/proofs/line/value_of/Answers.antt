-- `sheet::line::value_of` meets its contract: v is the number that the first i digits write.
-- Assumes nothing.
use Rattle.sheet.proofs.Digits.{value_more, value_all}
use Rattle.sheet.proofs.line.value_of.Goals as goal

pub loop-d-preserved : goal.loop-d-preserved
loop-d-preserved c = value_more _ _ _ c.loop-d.invariant _ (c.type_inv.digits c.loop-d.d-index).fits c.loop-d-test.true c.saturating_sub.ensures

pub returns : goal.returns
returns c = value_all _ _ _ c.loop-d.invariant c.loop-d-test.false
