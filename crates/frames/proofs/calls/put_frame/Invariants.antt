use Rattle.machine.specs.Procedures.{frame_from}
use Rattle.stores.proofs.Turns.{Turns}
use Rattle.frames.proofs.calls.put_frame.Given as goal

abbrev pub invariant-loop-k : goal.invariant-loop-k
invariant-loop-k l = Turns (frame_from l.top l.m) 0 l.n l.initial.words l.words l.k
