-- `writing::place::write_bytes_at` meets its contract: the invariant says which bytes are laid and which are left.
-- Assumes nothing.
use native.Mathlib.Omega.{arith}
use Rattle.writing.proofs.Laying.{begin, lay_next, end}
use Rattle.writing.proofs.place.write_bytes_at.Goals as goal

pub loop-i-init : goal.loop-i-init
loop-i-init c = begin _ _ _

pub loop-i-preserved : goal.loop-i-preserved
loop-i-preserved c = lay_next c.loop-i.invariant (omega arith)

pub returns : goal.returns
returns c = end c.loop-i.invariant (omega arith) (omega arith)
