-- `imgdraw::main` is safe: its arrays have the lengths that are asked for, and what is printed lies within one.
-- Assumes nothing.
use native.Mathlib.Omega.{arith}
use lib.ListN.{length-take}
use Rattle.imgdraw.proofs.main.Goals as goal

pub draw_read-size-requires : goal.draw_read-size-requires
draw_read-size-requires c = (omega arith, omega arith, omega arith)

pub slice_bounds-print-end : goal.slice_bounds-print-end
slice_bounds-print-end c = simp length-take (omega (arith, c.draw_read-size.ensures.within))
