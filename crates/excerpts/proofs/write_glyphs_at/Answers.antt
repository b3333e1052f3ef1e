-- `excerpts::write_glyphs_at` meets its contract: the first i bytes are shown.
-- Assumes nothing.
use native.Mathlib.Omega.{arith}
use Rattle.excerpts.proofs.Marking.{show_none, show_more, show_all}
use Rattle.excerpts.proofs.write_glyphs_at.Goals as goal

pub loop-b-init : goal.loop-b-init
loop-b-init c = show_none _ _ _ _ (omega arith)

pub loop-b-preserved : goal.loop-b-preserved
loop-b-preserved c = show_more _ _ _ _ _ _ _ c.loop-b.invariant _ _ _ (omega arith)
    c.loop-b-test.true c.glyph.ensures c.write_bytes_at-next.ensures

pub returns : goal.returns
returns c = show_all _ _ _ _ _ _ _ c.loop-b.invariant c.loop-b-test.false
