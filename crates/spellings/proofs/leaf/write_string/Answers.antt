-- `spellings::leaf::write_string` meets its contract: the string's text between two quotes.
-- Assumes nothing.
use Rattle.spellings.proofs.Leaves.{string_written}
use Rattle.spellings.proofs.leaf.write_string.Goals as goal

pub returns : goal.returns
returns c = search string_written
