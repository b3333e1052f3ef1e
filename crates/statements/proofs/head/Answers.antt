-- `statements::head` meets its contract: a word before parts that were read.
-- Assumes nothing.
use Rattle.statements.proofs.Written.{head_at}
use Rattle.statements.proofs.head.Goals as goal

pub returns : goal.returns
returns c = head_at _ _ _ _ _ _ _ _ _ c.place_at-place.ensures c.word_of.ensures c.put.ensures c.requires.parts.0
