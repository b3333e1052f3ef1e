use lib.ListN.{drop}
use Rattle.writing.proofs.Laying.{Going}
use Rattle.writing.proofs.place.write_bytes_at.Given as goal

abbrev pub invariant-loop-i : goal.invariant-loop-i
invariant-loop-i l = Going l.at l.bytes (drop l.i l.bytes) l.initial.out l.out l.i
