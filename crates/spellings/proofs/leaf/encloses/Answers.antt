-- `spellings::leaf::encloses` meets its contract: by the two tags.
-- Assumes nothing.
use Rattle.spellings.proofs.Leaves.{operator_encloses, operator_keeps, entry_encloses}
use Rattle.spellings.proofs.leaf.encloses.Goals as goal

pub returns-then-inner-ge-FIRST_OPERATOR : goal.returns-then-inner-ge-FIRST_OPERATOR
returns-then-inner-ge-FIRST_OPERATOR c = search operator_encloses

pub returns-then-outer-ne-ENTRY : goal.returns-then-outer-ne-ENTRY
returns-then-outer-ne-ENTRY c = search operator_keeps

pub returns : goal.returns
returns c = search entry_encloses
