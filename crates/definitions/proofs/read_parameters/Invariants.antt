use Prim.Native.Nat.{◌-◌}
use lib.ListN.{length}
use Rattle.definitions.proofs.Listing.{Listing}
use Rattle.definitions.proofs.read_parameters.Given as goal

abbrev pub invariant-loop-i : goal.invariant-loop-i
invariant-loop-i l = Listing l.tokens l.i l.n l.initial.words l.at l.m l.words

abbrev pub decreases-loop-i : goal.decreases-loop-i
decreases-loop-i l = length l.tokens - l.at
