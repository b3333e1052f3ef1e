use Rattle.pairs.proofs.PairLaws.{keeps_both}
use Rattle.pairs.proofs.keep.Goals as goal

pub returns : goal.returns
returns c = search keeps_both
