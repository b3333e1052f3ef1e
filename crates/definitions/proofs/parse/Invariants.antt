use Prim.Native.Nat.{◌-◌}
use lib.ListN.{length}
use Rattle.definitions.proofs.Gathering.{Gathering}
use Rattle.definitions.proofs.parse.Given as goal

abbrev pub invariant-loop-p : goal.invariant-loop-p
invariant-loop-p l = Gathering l.tokens l.initial.words l.i l.n l.main l.twice l.words

abbrev pub decreases-loop-p : goal.decreases-loop-p
decreases-loop-p l = length l.tokens - l.i
