use Rattle.pairs.proofs.PairLaws.{passes_right, backs_up, end_longer, end_last, end_above}
use Rattle.pairs.proofs.end.Goals as goal

pub passed_from-requires : goal.passed_from-requires
passed_from-requires c = search passes_right

pub returns-then-passed_from-w : goal.returns-then-passed_from-w
returns-then-passed_from-w c = search end_longer

pub returns-then-w-eq0 : goal.returns-then-w-eq0
returns-then-w-eq0 c = search end_last

pub back-requires : goal.back-requires
back-requires c = search backs_up

pub returns : goal.returns
returns c = search end_above
