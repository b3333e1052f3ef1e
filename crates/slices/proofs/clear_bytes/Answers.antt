-- `slices::clear_bytes` meets its contract: the bytes before k are zero.
use native.Mathlib.Omega.{arith}
use Rattle.slices.proofs.Clearing.{clear_more, clear_all}
use Rattle.slices.proofs.clear_bytes.Goals as goal

pub loop-k-preserved : goal.loop-k-preserved
loop-k-preserved c = clear_more _ _ _ c.loop-k.invariant (omega arith) (omega arith)

pub returns : goal.returns
returns c = clear_all _ _ _ c.loop-k.invariant (omega arith) (omega arith)
