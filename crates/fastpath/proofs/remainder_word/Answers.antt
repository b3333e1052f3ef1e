use Rattle.fastpath.proofs.Laws.{no_remainder, leaves}
use Rattle.fastpath.proofs.remainder_word.Goals as goal

pub returns-then-is_zero : goal.returns-then-is_zero
returns-then-is_zero c = search no_remainder

pub remainder-requires : goal.remainder-requires
remainder-requires c = cc

pub returns : goal.returns
returns c = search leaves
