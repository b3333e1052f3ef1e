use Rattle.effects.proofs.Laws.{unknown, word_put}
use Rattle.effects.proofs.put_word.Goals as goal

pub returns-then-not-is_declared : goal.returns-then-not-is_declared
returns-then-not-is_declared c = search unknown

pub returns : goal.returns
returns c = search word_put
