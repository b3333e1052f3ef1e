-- `clauses::write_update` meets its contract: the two roots stand before the value's code.
-- Assumes nothing.
use native.Mathlib.Omega.{arith}
use Rattle.clauses.proofs.Laws.{update_written}
use Rattle.clauses.proofs.write_update.Goals as goal

pub returns : goal.returns
returns c =
    update_written _ _ _ _ _ _ _ _ _
    (omega arith)
    c.word_at.ensures
    c.before-b.ensures.0
    c.word_at-2.ensures
    c.before-a.ensures.0
    c.write_entry-next.ensures
    c.write_between.ensures
