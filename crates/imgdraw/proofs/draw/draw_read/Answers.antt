-- `imgdraw::draw::draw_read` meets its contract: what was read is enough, and the out slice is as long as it is said to be.
-- Assumes nothing.
use native.Mathlib.Omega.{arith}
use lib.ListN.{length-take}
use Rattle.imgdraw.proofs.Enough.{read_prints}
use Rattle.imgdraw.proofs.draw.draw_read.Goals as goal

pub slice_bounds-draw_sheet-end : goal.slice_bounds-draw_sheet-end
slice_bounds-draw_sheet-end c = simp length-take (omega arith)

pub returns : goal.returns
returns c = read_prints _ _ _ _ _ c.requires.0 c.requires.2
    c.draw_sheet.ensures
