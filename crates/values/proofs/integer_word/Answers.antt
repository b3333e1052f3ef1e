use Rattle.values.proofs.Laws.{integer_is}
use Rattle.values.proofs.integer_word.Goals as goal

pub returns : goal.returns
returns c = integer_is c.ranges.z c.bits_of.ensures
