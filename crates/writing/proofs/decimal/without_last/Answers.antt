-- `writing::decimal::without_last` meets its contract: the invariant says how many digits are gone.
-- Assumes nothing.
use Rattle.writing.proofs.Decimals.{without_tenth}
use Rattle.writing.proofs.decimal.without_last.Goals as goal

pub loop-preserved : goal.loop-preserved
loop-preserved c = rw c.loop.invariant (without_tenth _ _)
