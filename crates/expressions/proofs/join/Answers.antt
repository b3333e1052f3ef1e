-- `join` meets its contract: there is room for one more word. Assumes nothing.
use Rattle.expressions.proofs.Puts.{joins_at}
use Rattle.expressions.proofs.join.Goals as goal

pub returns : goal.returns
returns c = joins_at _ _ _ _ _ _ c.put.ensures c.requires.spare.1 _ _ c.word_of.ensures
