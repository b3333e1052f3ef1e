-- `spellings::leaf::write_leaf` meets its contract: by the tag.
-- Assumes nothing.
use Rattle.spellings.proofs.Leaves.{number_leaf, string_leaf, none_leaf, truth_leaf, name_leaf}
use Rattle.spellings.proofs.leaf.write_leaf.Goals as goal

pub returns-in-1 : goal.returns-in-1
returns-in-1 c = search number_leaf

pub returns-in-2 : goal.returns-in-2
returns-in-2 c = search string_leaf

pub returns-in-3 : goal.returns-in-3
returns-in-3 c = search none_leaf

pub returns-in-4 : goal.returns-in-4
returns-in-4 c = search truth_leaf

pub returns-in_default : goal.returns-in_default
returns-in_default c = search name_leaf
