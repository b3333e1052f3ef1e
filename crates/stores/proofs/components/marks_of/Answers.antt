use native.Mathlib.Omega.{arith}
use lib.ListN.{get_or}
use Rattle.stores.proofs.Laws.{rows_small}
use Rattle.stores.proofs.components.marks_of.Goals as goal

pub overflow_mul-result-3 : goal.overflow_mul-result-3
overflow_mul-result-3 c = omega (arith, rows_small (get_or c.args.grants.now 4 0) c.args.k c.requires.1.1 (omega arith))

pub overflow_add-result-3 : goal.overflow_add-result-3
overflow_add-result-3 c = omega (arith, rows_small (get_or c.args.grants.now 4 0) c.args.k c.requires.1.1 (omega arith), c.requires.0, c.requires.1.0)
