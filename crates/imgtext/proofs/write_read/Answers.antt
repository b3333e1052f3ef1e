-- `imgtext::write_read` meets its contract: what was read is enough.
use native.Mathlib.Omega.{arith}
use lib.ListN.{length-take}
use Rattle.imgtext.proofs.Enough.{read_prints}
use Rattle.imgtext.proofs.write_read.Goals as goal

pub slice_bounds-write_program-end : goal.slice_bounds-write_program-end
slice_bounds-write_program-end c = simp length-take (omega arith)

pub returns : goal.returns
returns c = read_prints _ _ _ _ c.requires.0 c.write_program.ensures
