-- `excerpts::write_mark_at` meets its contract: by the line's parts.
-- Assumes nothing.
use native.Mathlib.Omega.{arith}
use Rattle.excerpts.proofs.Marking.{wrote_mark}
use Rattle.excerpts.proofs.write_mark_at.Goals as goal

pub returns : goal.returns
returns c = wrote_mark _ (omega arith) _
    c.write_if_at-a.ensures
    c.write_glyphs_at-b.ensures c.write_bytes_at.ensures
