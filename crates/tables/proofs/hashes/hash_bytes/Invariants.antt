use Rattle.tables.proofs.HashLaws.{Hashing}
use Rattle.tables.proofs.hashes.hash_bytes.Given as goal

abbrev pub invariant-loop-x : goal.invariant-loop-x
invariant-loop-x l = Hashing l.s l.h l.hash l.x-index
