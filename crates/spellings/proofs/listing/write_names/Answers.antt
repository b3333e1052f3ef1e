-- `spellings::listing::write_names` meets its contract: by the invariant the names so far are written.
-- Assumes nothing.
use native.Mathlib.Omega.{arith}
use Rattle.spellings.proofs.Names.{names_first, names_next, names_end}
use Rattle.spellings.proofs.listing.write_names.Goals as goal

pub loop-i-init : goal.loop-i-init
loop-i-init c = names_first _ _ _ (omega arith) (omega arith)

pub loop-i-preserved : goal.loop-i-preserved
loop-i-preserved c = names_next _ _ _ _ c.loop-i.invariant (omega arith) c.write_listed-next.ensures

pub returns : goal.returns
returns c = names_end _ _ _ _ c.loop-i.invariant (omega arith)
