-- `imgtext::main` is safe: its arrays have the lengths that are asked for, and what is printed lies within one.
use native.Mathlib.Omega.{arith}
use lib.ListN.{length-take}
use Rattle.imgtext.proofs.main.Goals as goal

pub slice_bounds-print-end : goal.slice_bounds-print-end
slice_bounds-print-end c = simp length-take (omega (arith, c.write_read-size.ensures.within))
