-- `put_leaf` meets its contract. Assumes nothing.
use native.Mathlib.Omega.{arith}
use Rattle.expressions.proofs.Puts.{leaf_put}
use Rattle.expressions.proofs.put_leaf.Goals as goal

pub returns : goal.returns
returns c = leaf_put _ _ _ _ _ _ _ _ c.word_of.ensures c.put.ensures
    (omega (arith, c.requires.behind, c.requires.inside))
