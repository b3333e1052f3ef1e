-- `definitions::read_below` meets its contract: the upper half is not lent.
-- Assumes nothing.
use Rattle.definitions.proofs.Gathering.{below_reads}
use Rattle.definitions.proofs.read_below.Goals as goal

pub returns : goal.returns
returns c = below_reads _ _ _ _ _ c.requires.halves c.requires.n_le_i
    c.read_procedure.auto.words _ c.read_procedure.ensures
