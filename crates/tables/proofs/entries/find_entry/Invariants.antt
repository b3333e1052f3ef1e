use Rattle.tables.proofs.IndexLaws.{Walking}
use Rattle.tables.proofs.entries.find_entry.Given as goal

abbrev pub invariant-loop-k : goal.invariant-loop-k
invariant-loop-k l = Walking l.program l.grants l.texts l.words l.t l.key l.base l.k

abbrev pub decreases-loop-k : goal.decreases-loop-k
decreases-loop-k l = l.k
