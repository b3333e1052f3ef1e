-- `finish` meets its contract: there is room for one more word. Assumes nothing.
use Rattle.expressions.proofs.Puts.{finishes_at}
use Rattle.expressions.proofs.finish.Goals as goal

pub returns : goal.returns
returns c = finishes_at _ _ _ _ _ _ c.put.ensures c.requires.spare.spare.1 _ c.word_of.ensures
