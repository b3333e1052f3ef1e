-- `names::rewrite` meets its contract: the words before i are prepared, the others are as they were.
use Rattle.names.proofs.Rewriting.{home_few, rewrite_more, rewrite_all}
use Rattle.names.proofs.rewrite.Goals as goal

pub word_with-requires : goal.word_with-requires
word_with-requires c = search home_few

pub loop-i-preserved : goal.loop-i-preserved
loop-i-preserved c = search rewrite_more

pub returns : goal.returns
returns c = search rewrite_all
