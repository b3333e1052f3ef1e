use Rattle.figures.proofs.ComparingLaws.{pair_apart, pair_rest}
use Rattle.figures.proofs.comparing.same_pair.Goals as goal

pub returns-then-same : goal.returns-then-same
returns-then-same c = search pair_rest

pub returns-else-same : goal.returns-else-same
returns-else-same c = search pair_apart
