-- `spellings::listing::write_listed` meets its contract: with a comma, or without.
-- Assumes nothing.
use Rattle.spellings.proofs.Names.{listed_behind, listed_first}
use Rattle.spellings.proofs.listing.write_listed.Goals as goal

pub returns-then-follows : goal.returns-then-follows
returns-then-follows c = search listed_behind

pub returns : goal.returns
returns c = search listed_first
