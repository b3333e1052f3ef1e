use native.Mathlib.Omega.{arith}
use lib.ListN.{get_or}
use Rattle.stores.proofs.Laws.{rows_small, mark_stands}
use Rattle.stores.proofs.components.mark_place.Goals as goal

pub overflow_add-result : goal.overflow_add-result
overflow_add-result c =
    omega (arith, c.marks_of.ensures, rows_small (get_or c.args.grants.now 4 0) c.args.k c.requires.calls (omega arith), c.requires.shapes, c.requires.entries)

pub returns : goal.returns
returns c = search mark_stands
