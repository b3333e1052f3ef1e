use native.Mathlib.Omega.{arith}
use lib.ListN.{length-set}
use Rattle.stores.proofs.Laws.{push_full, pushes}
use Rattle.stores.proofs.arguments.push.Goals as goal

pub returns-then-k-ge-MOST_ARGUMENTS : goal.returns-then-k-ge-MOST_ARGUMENTS
returns-then-k-ge-MOST_ARGUMENTS c = search push_full

pub bounds-words-6-2 : goal.bounds-words-6-2
bounds-words-6-2 c = simp length-set (omega arith)

pub returns : goal.returns
returns c = search pushes
