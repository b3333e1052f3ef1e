-- `clauses::tag_ends` meets its contract: by the tag.
-- Assumes nothing.
use Rattle.clauses.proofs.Laws.{tag_closed, tag_leaf}
use Rattle.clauses.proofs.tag_ends.Goals as goal

pub returns-then-tag-ge-TABLE : goal.returns-then-tag-ge-TABLE
returns-then-tag-ge-TABLE c = search tag_closed

pub returns : goal.returns
returns c = search tag_leaf
