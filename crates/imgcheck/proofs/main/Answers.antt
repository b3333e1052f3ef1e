-- `imgcheck::main` is safe: its arrays have the lengths that are asked for, and what is printed lies within one.
-- Assumes nothing.
use native.Mathlib.Omega.{arith}
use lib.ListN.{length-take}
use Rattle.imgcheck.proofs.main.Goals as goal

pub report_read-size-requires : goal.report_read-size-requires
report_read-size-requires c = (omega arith, omega arith, omega arith)

pub slice_bounds-print-end : goal.slice_bounds-print-end
slice_bounds-print-end c = simp length-take (omega (arith, c.report_read-size.ensures.within))
