use Rattle.frames.proofs.CallLaws.{frame_more, all_framed}
use Rattle.stores.proofs.Turns.{turns_first}
use native.Mathlib.Omega.{arith}
use Rattle.frames.proofs.calls.put_frame.Goals as goal

pub loop-k-init : goal.loop-k-init
loop-k-init c = turns_first _ 0 _ _ (omega arith)

pub loop-k-preserved : goal.loop-k-preserved
loop-k-preserved c = search frame_more

pub returns : goal.returns
returns c = search all_framed
