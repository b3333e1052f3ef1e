-- `excerpts::write_shown_at` meets its contract: by the line's parts.
-- Assumes nothing.
use native.Mathlib.Omega.{arith}
use Rattle.excerpts.proofs.Marking.{wrote_shown}
use Rattle.excerpts.proofs.write_shown_at.Goals as goal

pub returns : goal.returns
returns c = wrote_shown _ (omega arith) _ _ c.write_if_at-a.ensures c.write_glyphs_at-b.ensures c.write_if_at-c.ensures c.write_bytes_at.ensures
